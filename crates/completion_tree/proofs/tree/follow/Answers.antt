use Rattle.std.proofs.Common.{◌+◌, ◌-◌, take, drop, arith}
use Rattle.completion_tree.specs.declared.tree.Entry.TheVariants.{Fact as Grounded}
use Rattle.completion_tree.proofs.Entries.{more_taken, more_grounded, first_stay}
use Rattle.completion_tree.proofs.tree.follow.Goals as goal

pub loop-place-preserved : goal.loop-place-preserved
loop-place-preserved g c =
    let fs = c.args.facts.now.facts in
    let from = c.args.from in
    let place = c.loop-place.place in
    let es = c.loop-place.trail in
    let put = c.in_ok-push.ensures.put in
    record {
      put =
          more_grounded c.args.trail.now es c.push.new.self c.args.by.now c.in_ok-by.by
          (take (place - from) (drop from fs)) (take (place + 1 - from) (drop from fs)) c.fact.result
          c.loop-place.invariant.put put c.in_ok-by.ensures
          (more_taken fs from place c.fact.result (omega arith)
          (omega (arith, c.loop-place-test.true, c.len-place-end.ensures)) c.fact.ensures);
      begins =
          first_stay c.args.trail.now es c.push.new.self (Grounded c.fact.result c.in_ok-by.by)
          c.loop-place.invariant.begins put;
    }
