-- When two sets are the same.
use Rattle.std.proofs.Common.{◌≡◌, sym, ◌∙◌, inl, inr}
use Rattle.std.specs.Cmp.{nat_cmp_total}
use Rattle.std.specs.FinSet as sets
use Rattle.std.proofs.lemmas.Bool.{cases_Bool, true≢false}
use Rattle.lane_sieve.specs.Sets.{NumberSet, IsPart}
use Rattle.axiom_sets.specs.Sets.{Limited}

-- each is part of the other
pub set_of_parts : (s t : NumberSet) → IsPart s t → IsPart t s → s ≡ t
set_of_parts s t st ts =
    sets.same_set nat_cmp_total sets.nat_cmp-IsAntisymmetric s t
    (λ k. elim (cases_Bool (sets.contains s k)) [
      | inl yes' ↦ yes' ∙ sym (st k yes')
      | inr no' ↦ elim (cases_Bool (sets.contains t k)) [
        | inl yes' ↦ absurd (true≢false (sym (ts k yes') ∙ no'))
        | inr none ↦ no' ∙ sym none
      ]
    ])

pub same_limited : (s t : Limited) → s.limit ≡ t.limit → s.members ≡ t.members → s ≡ t
same_limited s t e f = λ i. record { limit = e i; members = f i }
