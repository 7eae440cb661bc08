-- Facts for the small functions.
use Rattle.std.proofs.Common.{◌≡◌, ℕ, suc, ◌≤◌, true, false, List, length, get_or, ap, subst, arith, inl, inr}
use Rattle.std.specs.Prelude.{Option, None, Some, IfSome, IfNone}
use Rattle.std.specs.Iterator.{YieldsFirst}
use Rattle.std.specs.FinSet as set
use Rattle.std.proofs.lemmas.Bool.{cases_Bool}
use Rattle.axiom_sets.specs.Sets.{Limited, IsWithin, member_list}
use Rattle.axiom_sets.proofs.Listed.{member_list-at, member_list-place}

-- ---- the first number

pub first_none : (s : Limited) → IsWithin s.limit s.members → (r : Option ℕ) (t : List ℕ)
    → YieldsFirst (λ xs. xs) (member_list s) r t → IfNone r ((k : ℕ) → set.contains s.members k ≡ false)
first_none s within None t h = λ k.
    elim (cases_Bool (set.contains s.members k)) [
      | inr no' ↦ no'
      | inl yes' ↦
          let place = member_list-place s within k yes' in
          let none : length (member_list s) ≡ 0 = ap length h.0 in absurd (omega (arith, place.1, none))
    ]
first_none s within (Some x) t h = tt

pub first_some : (s : Limited) → IsWithin s.limit s.members → (r : Option ℕ) (t : List ℕ)
    → YieldsFirst (λ xs. xs) (member_list s) r t
    → IfSome r (λ n. (set.contains s.members n ≡ true) × (1 ≤ n) × (n ≤ s.limit))
first_some s within None t h = tt
first_some s within (Some x) t h =
    let long : length (member_list s) ≡ suc (length t) = ap length h in
    let at = member_list-at s 0 (omega (arith, long)) in
    let member : set.contains s.members x ≡ true =
    subst (λ (n : ℕ). set.contains s.members n ≡ true) (ap (λ (xs : List ℕ). get_or xs 0 0) h) at.0 in
    let inside = within x member in (member, inside.0, inside.1)

pub weaker : (r : Option ℕ) (P Q : ℕ → Type 0) → ((n : ℕ) → P n → Q n) → IfSome r P → IfSome r Q
weaker None P Q f h = h
weaker (Some x) P Q f h = f x h
