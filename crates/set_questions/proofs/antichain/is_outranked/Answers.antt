use Rattle.std.proofs.Common.{◌≡◌, ◌∙◌, ℕ, get_or, refl, sym, subst, ap, inl, inr, arith}
use Rattle.std.proofs.lemmas.Bool.{cases_eq, true≢false}
use Rattle.std.proofs.lemmas.List.{get_or_default}
use Rattle.pinpointing_specs.specs.Sets.{Limited}
use Rattle.set_questions.specs.Kept.{Outranks}
use Rattle.set_questions.proofs.antichain.is_outranked.Goals as goal

pub loop-place-preserved : goal.loop-place-preserved
loop-place-preserved c k d lt =
    elim (cases_eq k c.loop-place.place) [
      | inl e ↦ λ has.
          let read : c.index-sets-place.result ≡ get_or c.args.sets.now k d =
          c.index-sets-place.is ∙ ap (λ (j : ℕ). get_or c.args.sets.now j c.index-sets-place.result) (sym e)
          ∙ get_or_default c.args.sets.now k c.index-sets-place.result d (omega arith) in
          true≢false
          (sym (c.outranks.ensures.1
          (subst (λ (s : Limited). Outranks c.args.kind s.members c.args.set.now.members) (sym read) has))
          ∙ c.if-outranks.false)
      | inr ne ↦ c.loop-place.invariant k d (omega arith)
    ]

pub returns-then-outranks : goal.returns-then-outranks
returns-then-outranks c = (
  λ _. (
    c.index-sets-place.result,
    (c.loop-place.place, c.loop-place-test.true, sym c.index-sets-place.is),
    c.outranks.ensures.0 c.if-outranks.true,
  ),
  λ _. refl,
)

pub returns : goal.returns
returns c = (
  λ f. absurd (true≢false (sym f)),
  λ found. absurd
      (c.loop-place.invariant found.1.0 found.0 (omega (arith, found.1.1))
      (subst (λ (s : Limited). Outranks c.args.kind s.members c.args.set.now.members) (sym found.1.2) found.2)),
)
