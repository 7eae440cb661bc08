use Rattle.std.proofs.Common.{◌≡◌, ◌∙◌, ℕ, get_or, sym, subst, ap, inl, inr, arith}
use Rattle.std.proofs.lemmas.Bool.{cases_eq}
use Rattle.std.proofs.lemmas.List.{get_or_default}
use Rattle.lane_sieve.specs.Sets.{DoMeet}
use Rattle.pinpointing_specs.specs.Sets.{Limited}
use Rattle.set_questions.proofs.places.place_apart.Goals as goal

pub loop-place-preserved : goal.loop-place-preserved
loop-place-preserved c k d lt =
    elim (cases_eq k c.loop-place.place) [
      | inl e ↦
          let read : c.index-sets-place.result ≡ get_or c.args.sets.now k d =
          c.index-sets-place.is ∙ ap (λ (j : ℕ). get_or c.args.sets.now j c.index-sets-place.result) (sym e)
          ∙ get_or_default c.args.sets.now k c.index-sets-place.result d (omega arith) in
          subst (λ (s : Limited). DoMeet s.members c.args.set.now.members) read (c.meets.ensures.0 c.if-not-meets.false)
      | inr ne ↦ c.loop-place.invariant k d (omega arith)
    ]
