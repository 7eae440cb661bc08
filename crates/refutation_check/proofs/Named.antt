-- A set is part of another where each number of its list is in that one.
use Rattle.std.proofs.Common.{◌≡◌, ℕ, ◌<◌, ◌≤◌, ◌⊎◌, Bool, true, false, List, length, get_or, subst, sym, ◌∙◌, inl, inr}
use Rattle.std.proofs.Common.{arith}
use Rattle.std.specs.Prelude.{◌↔◌, IsTrue}
use Rattle.std.specs.List.{list_all}
use Rattle.std.specs.FinSet as sets
use Rattle.std.proofs.lemmas.Bool.{cases_Bool}
use Rattle.std.proofs.lemmas.List.Elements.{All-get_or, All-from_get_or}
use Rattle.std.proofs.lemmas.List.Sums.{AllPass-from_list_all, list_all-from_AllPass}
use Rattle.axiom_sets.specs.NumberSets.{IsPart}
use Rattle.axiom_sets.specs.Sets.{Limited, IsWithin, member_list}
use Rattle.axiom_sets.proofs.Listed.{member_list-at, member_list-place}

pub outside : (s : Limited) (k : ℕ) → IsWithin s.limit s.members → (k < 1) ⊎ (s.limit < k)
    → false ≡ sets.contains s.members k
outside s k within out = elim (cases_Bool (sets.contains s.members k)) [
  | inr f ↦ sym f
  | inl t ↦
      elim out [ inl lt ↦ absurd (omega (arith, (within k t).0)) | inr gt ↦ absurd (omega (arith, (within k t).1)) ]
]

pub all_in : (s t : Limited) → IsWithin s.limit s.members → (b : Bool)
    → b ≡ list_all (sets.contains t.members) (member_list s) → IsTrue b ↔ IsPart s.members t.members
all_in s t within b e = (
  λ h k member.
      let place = member_list-place s within k member in
      subst (λ (n : ℕ). sets.contains t.members n ≡ true) place.2
      (All-get_or (λ (n : ℕ). sets.contains t.members n ≡ true) (member_list s) place.0 0 place.1
      (AllPass-from_list_all (sets.contains t.members) (member_list s) (sym e ∙ h))),
  λ part.
      e
      ∙ list_all-from_AllPass (sets.contains t.members) (member_list s)
      (All-from_get_or (λ (n : ℕ). sets.contains t.members n ≡ true) (member_list s) 0
      (λ i lt. part (get_or (member_list s) i 0) (member_list-at s i lt).0)),
)
