use Rattle.std.proofs.Common.{sym, ◌∙◌, arith}
use Rattle.finite_model.specs.ModelLists.{meaning}
use Rattle.finite_model.specs.AtElement.{met_at, can_break}
use Rattle.finite_model.proofs.AtElement.{unbroken}
use Rattle.finite_model.proofs.Skipped.{all_passed, all_failed, all_ended}
use Rattle.finite_model.proofs.interp.Interp.meets_at_each.Goals as goal

pub returns-then-not-meets_at : goal.returns-then-not-meets_at
returns-then-not-meets_at c =
    let k = c.args.self.now in
    let a = c.args.«axiom».now in
    all_failed (met_at (meaning k) a) k.size c.in-Some.x c.in-Some.ensures.below
    (sym c.meets_at.ensures ∙ c.if-not-meets_at.true)

pub loop-x-preserved : goal.loop-x-preserved
loop-x-preserved c =
    let k = c.args.self.now in
    let a = c.args.«axiom».now in
    record {
      so_far =
          all_passed (can_break k a) (met_at (meaning k) a) (λ x. unbroken k x a) k.size c.loop-x.from c.in-Some.x
          c.after-from.result c.loop-x.invariant.so_far c.in-Some.ensures
          (sym c.meets_at.ensures ∙ c.if-not-meets_at.false) c.after-from.ensures;
      within = omega (arith, c.in-Some.ensures.below, c.after-from.ensures);
    }

pub returns : goal.returns
returns c =
    let k = c.args.self.now in
    let a = c.args.«axiom».now in
    sym (all_ended (can_break k a) (met_at (meaning k) a) (λ x. unbroken k x a) k.size c.loop-x.from
    c.loop-x.invariant.within c.in_default.ensures
    ∙ c.loop-x.invariant.so_far)
