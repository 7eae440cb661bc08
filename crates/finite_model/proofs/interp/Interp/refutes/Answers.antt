use Rattle.std.proofs.Common.{ℕ, Bool, not, ap, sym, ◌∙◌, arith}
use Rattle.shq_meaning.specs.Truth.{refutes_at}
use Rattle.finite_model.specs.AtElement.{can_refute}
use Rattle.finite_model.specs.ModelLists.{meaning}
use Rattle.finite_model.proofs.Skipped.{all_before, all_passed, all_ended}
use Rattle.finite_model.proofs.Empty.{unrefuted}
use Rattle.finite_model.proofs.interp.Interp.refutes.Goals as goal

pub returns-then-refutes_at : goal.returns-then-refutes_at
returns-then-refutes_at c =
    let i = meaning c.args.self.now in
    let p : ℕ → Bool = can_refute i c.args.query.now in
    let q : ℕ → Bool = λ x. not (refutes_at i c.args.query.now x) in
    let next = c.in-Some.ensures in
    record {
      below = next.below;
      passes = sym c.refutes_at.ensures ∙ c.if-refutes_at.true;
      least =
          all_before p q (unrefuted i c.args.query.now) c.args.self.now.size c.loop-x.from c.in-Some.x next
          ∙ c.loop-x.invariant.so_far;
    }

pub loop-x-preserved : goal.loop-x-preserved
loop-x-preserved c =
    let i = meaning c.args.self.now in
    let p : ℕ → Bool = can_refute i c.args.query.now in
    let q : ℕ → Bool = λ x. not (refutes_at i c.args.query.now x) in
    let next = c.in-Some.ensures in
    record {
      so_far =
          all_passed p q (unrefuted i c.args.query.now) c.args.self.now.size c.loop-x.from c.in-Some.x
          c.after-from.result c.loop-x.invariant.so_far next (ap not (sym c.refutes_at.ensures ∙ c.if-refutes_at.false))
          c.after-from.ensures;
      within = omega (arith, next.below, c.after-from.ensures);
    }

pub returns : goal.returns
returns c =
    let i = meaning c.args.self.now in
    let p : ℕ → Bool = can_refute i c.args.query.now in
    let q : ℕ → Bool = λ x. not (refutes_at i c.args.query.now x) in
    all_ended p q (unrefuted i c.args.query.now) c.args.self.now.size c.loop-x.from c.loop-x.invariant.within
    c.in_default.ensures
    ∙ c.loop-x.invariant.so_far
