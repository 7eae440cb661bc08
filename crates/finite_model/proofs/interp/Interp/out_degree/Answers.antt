use Rattle.std.proofs.Common.{◌≡◌, ℕ, Bool, cond, sym, ap, ◌∙◌, arith}
use Rattle.finite_model.specs.ModelLists.{meaning}
use Rattle.finite_model.proofs.Skipped.{count_stepped, count_ended}
use Rattle.finite_model.proofs.interp.Interp.out_degree.Goals as goal

pub overflow_add-count : goal.overflow_add-count
overflow_add-count c = omega
    (arith, c.in-Some.ensures.next.reached, c.after-from.ensures, c.after-from.type_inv, c.loop-y.invariant.bounded)

pub loop-y-preserved : goal.loop-y-preserved
loop-y-preserved c =
    let k = c.args.self.now in
    let p : ℕ → Bool = (meaning k).in_role c.args.role c.args.x in
    let next = c.in-Some.ensures.next in
    let one : 1 ≡ cond (p c.in-Some.y) 1 0 = sym (ap (λ b. cond b 1 0) c.in-Some.ensures.successor) in
    record {
      counted =
          count_stepped p p (λ y none. none) k.size c.loop-y.from c.in-Some.y c.after-from.result c.loop-y.count 1
          c.loop-y.invariant.counted next one c.after-from.ensures;
      bounded = omega (arith, next.reached, c.after-from.ensures, c.loop-y.invariant.bounded);
      within = omega (arith, next.below, c.after-from.ensures);
    }

pub returns : goal.returns
returns c =
    let k = c.args.self.now in
    let p : ℕ → Bool = (meaning k).in_role c.args.role c.args.x in
    c.loop-y.invariant.counted
    ∙ sym (count_ended p p (λ y none. none) k.size c.loop-y.from c.loop-y.invariant.within c.in_default.ensures.next)
