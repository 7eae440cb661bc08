use Rattle.std.proofs.Common.{◌+◌, ◌-◌, ◌∷◌, [], ◌∙◌}
use Rattle.calculus_specs.specs.declared.facts.Fact.TheVariants.{Apart}
use Rattle.calculus_specs.specs.State.{apart_from}
use Rattle.fact_tree.proofs.Fresh.{moved_on, begins_on, apart_step, count_apart}
use Rattle.fact_tree.proofs.tree.FactTree.put_apart_from.Goals as goal

pub loop-place-preserved : goal.loop-place-preserved
loop-place-preserved g c =
    let y = c.args.node in
    let i = c.loop-place.place in
    let n = c.args.count in
    let first = c.args.first in
    let part = Apart y (first + i) ∷ [] in
    record {
      facts =
          moved_on c.loop-place.self c.add.new.self _ part (apart_from y (first + (i + 1)) (n - (i + 1)))
          (apart_from y (first + i) (n - i)) c.loop-place.invariant.facts
          (apart_step y first n i c.loop-place-test.true) c.in_ok-add.ensures.added;
      nodes =
          count_apart c.loop-place.self c.add.new.self y (first + i) c.in_ok-add.ensures.added
          ∙ c.loop-place.invariant.nodes;
      begins =
          begins_on c.args.self.now c.loop-place.self c.add.new.self part c.loop-place.invariant.begins
          c.in_ok-add.ensures.added;
    }
