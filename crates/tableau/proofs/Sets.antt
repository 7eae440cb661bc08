-- Sets of concept numbers.
use Rattle.std.proofs.Common.{◌≡◌, ℕ, ◌+◌, ◌||◌, eqb, Bool, ap, ◌∙◌, sym, arith, inl, inr, eq-eqb}
use Rattle.std.specs.FinSet as set
use Rattle.std.proofs.lemmas.Bool.{cases_Bool, eqb-true}
use Rattle.lane_sieve.proofs.Bits.{contains_insert}
use Rattle.axiom_sets.specs.Sets.{Limited}
use Rattle.tableau.specs.Seen.{holds}

shifted : (m n : ℕ) → eqb (m + 1) (n + 1) ≡ eqb n m
shifted m n = elim (cases_Bool (eqb (m + 1) (n + 1))) [
  | inl h ↦ (let e = eqb-true (m + 1) (n + 1) h in h ∙ sym (eq-eqb n m (omega (arith, e))))
  | inr h ↦ elim (cases_Bool (eqb n m)) [
    | inl g ↦ (let e = eqb-true n m g in let k = eq-eqb (m + 1) (n + 1) (omega (arith, e)) in cc)
    | inr g ↦ h ∙ sym g
  ]
]

pub holds-insert : (limit : ℕ) (s : Limited) (number c : ℕ)
    → holds (record { limit = limit; members = set.insert s.members (number + 1) }) c ≡ (eqb number c || holds s c)
holds-insert limit s number c =
    contains_insert s.members (number + 1) (c + 1) ∙ ap (λ (b : Bool). b || holds s c) (shifted c number)
