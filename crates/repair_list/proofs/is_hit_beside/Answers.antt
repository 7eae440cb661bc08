use Rattle.std.proofs.Common.{◌≡◌, ◌∙◌, ℕ, get_or, refl, sym, subst, ap, inl, inr, arith}
use Rattle.std.proofs.lemmas.Bool.{cases_eq, true≢false}
use Rattle.std.proofs.lemmas.List.{get_or_default}
use Rattle.axiom_sets.specs.Sets.{Limited}
use Rattle.repair_list.specs.Alone.{HasAlone}
use Rattle.repair_list.proofs.is_hit_beside.Goals as goal

pub loop-place-preserved : goal.loop-place-preserved
loop-place-preserved c k d lt =
    elim (cases_eq k c.loop-place.place) [
      | inl e ↦ λ has.
          let read : c.index-justifications-place.result ≡ get_or c.args.justifications.now k d =
          c.index-justifications-place.is
          ∙ ap (λ (j : ℕ). get_or c.args.justifications.now j c.index-justifications-place.result) (sym e)
          ∙ get_or_default c.args.justifications.now k c.index-justifications-place.result d (omega arith) in
          true≢false
          (sym (c.has_alone.ensures.1
          (subst (λ (s : Limited). HasAlone s c.args.others.now.members c.args.number) (sym read) has))
          ∙ c.if-has_alone.false)
      | inr ne ↦ c.loop-place.invariant k d (omega arith)
    ]

pub returns-then-has_alone : goal.returns-then-has_alone
returns-then-has_alone c = (
  λ _. (
    c.index-justifications-place.result,
    (c.loop-place.place, c.loop-place-test.true, sym c.index-justifications-place.is),
    c.has_alone.ensures.0 c.if-has_alone.true,
  ),
  λ _. refl,
)

pub returns : goal.returns
returns c = (
  λ f. absurd (true≢false (sym f)),
  λ found. absurd
      (c.loop-place.invariant found.1.0 found.0 (omega (arith, found.1.1))
      (subst (λ (s : Limited). HasAlone s c.args.others.now.members c.args.number) (sym found.1.2) found.2)),
)
