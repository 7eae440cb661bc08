use Rattle.std.proofs.Common.{sym, ◌∙◌, subst, arith, inl, inr}
use Rattle.std.proofs.lemmas.Bool.{true≢false, cases_eq}
use Rattle.audit_check.specs.Listed.{ContainsAt}
use Rattle.audit_check.proofs.listed.contains_another.Goals as goal

pub loop-other-preserved : goal.loop-other-preserved
loop-other-preserved c j low at =
    elim (cases_eq j c.loop-other.other) [
      | inl e ↦
          true≢false
          (sym (c.contains_at.ensures.1 (subst (ContainsAt c.args.sets.now c.args.place) e at))
          ∙ c.if-contains_at.false)
      | inr ne ↦ c.loop-other.invariant j (omega arith) at
    ]

pub returns : goal.returns
returns c = (
  λ f. absurd (true≢false (sym f)),
  λ found. absurd (c.loop-other.invariant found.0 (omega (arith, found.1)) found.2),
)
