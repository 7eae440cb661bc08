-- The ascending list of a set's members, for callers that go over it.
use Rattle.std.proofs.Common.{◌≡◌, ℕ, ◌+◌, ◌<◌, ◌≤◌, ◌∙◌, true, false, length, get_or, ap, arith, inl, inr}
use Rattle.std.specs.FinSet as sets
use Rattle.std.proofs.lemmas.Bool.{cases_Bool}
use Rattle.lane_sieve.specs.Sets.{passing}
use Rattle.lane_sieve.proofs.Ranges.{passing-at, passing-place, passing-ascends, passing_from, length-passing-le}
use Rattle.axiom_sets.specs.Sets.{Limited, IsWithin, member_list}

-- what stands in the list is a member
pub member_list-at : (s : Limited) (i : ℕ) → i < length (member_list s)
    → (sets.contains s.members (get_or (member_list s) i 0) ≡ true) × (get_or (member_list s) i 0 ≤ s.limit)
member_list-at s i lt =
    let at = passing-at (sets.contains s.members) 0 (s.limit + 1) i 0 lt in (at.0, omega (arith, at.2))

-- each member stands in the list
pub member_list-place : (s : Limited) → IsWithin s.limit s.members → (k : ℕ) → sets.contains s.members k ≡ true
    → (j : ℕ) × (j < length (member_list s)) × (get_or (member_list s) j 0 ≡ k)
member_list-place s within k member =
    passing-place (sets.contains s.members) 0 (s.limit + 1) k (omega arith) (omega (arith, (within k member).1)) member

-- the list ascends
pub member_list-ascends : (s : Limited) (i j : ℕ) → i < j → j < length (member_list s)
    → get_or (member_list s) i 0 < get_or (member_list s) j 0
member_list-ascends s = passing-ascends (sets.contains s.members) 0 (s.limit + 1)

-- there are no more members than numbers
pub member_list-short : (s : Limited) → IsWithin s.limit s.members → length (member_list s) ≤ s.limit
member_list-short s within =
    let e : s.limit + 1 ≡ 1 + s.limit = omega arith in
    let p = sets.contains s.members in
    let none : p 0 ≡ false = elim (cases_Bool (p 0)) [ inr f ↦ f | inl t ↦ absurd (omega (arith, (within 0 t).0)) ] in
    let split : member_list s ≡ passing p 1 s.limit =
    ap (passing p 0) e
    ∙ passing_from p 0 1 s.limit (λ k low high.
    let z : k ≡ 0 = omega arith in
    ap p z ∙ none) in
    omega
    (arith, ap length split, length-passing-le p 1 s.limit (s.limit + 1) (λ k low h. omega (arith, (within k h).1)))
