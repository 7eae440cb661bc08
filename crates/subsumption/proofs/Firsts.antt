-- The first class of a set, and the numbers of a set one after the other.
use Rattle.std.proofs.Common.{◌≡◌, ℕ, suc, ◌+◌, ◌-◌, ◌<◌, ◌≤◌, true, false, List, [], ◌∷◌, length, get_or, refl, ap}
use Rattle.std.proofs.Common.{sym, subst, ◌∙◌, arith}
use Rattle.std.specs.FinSet as sets
use Rattle.std.specs.List.{Contains}
use Rattle.std.proofs.lemmas.Bool.{false_from_ne_true}
use Rattle.std.proofs.lemmas.List.{get_or_default}
use Rattle.axiom_sets.specs.Sets.{Limited, IsWithin, member_list}
use Rattle.axiom_sets.proofs.Listed.{member_list-at, member_list-place}

-- the first number of a set is a member
pub first_member : (s : Limited) → IsWithin s.limit s.members → (n : ℕ) (rest : List ℕ) → member_list s ≡ n ∷ rest
    → (sets.contains s.members n ≡ true) × (1 ≤ n) × (n ≤ s.limit)
first_member s within n rest is =
    let at = member_list-at s 0 (omega (arith, ap length is)) in
    let first : get_or (member_list s) 0 0 ≡ n = ap (λ (ns : List ℕ). get_or ns 0 0) is in
    let member : sets.contains s.members n ≡ true = ap (sets.contains s.members) (sym first) ∙ at.0 in
    (member, (within n member).0, (within n member).1)

-- so the class before it is one of the set's
pub first_is_one : (s : Limited) → IsWithin s.limit s.members → (n : ℕ) (rest : List ℕ) → member_list s ≡ n ∷ rest
    → (n - 1 < s.limit) × (sets.contains s.members ((n - 1) + 1) ≡ true)
first_is_one s within n rest is =
    let h = first_member s within n rest is in
    let back : (n - 1) + 1 ≡ n = omega (arith, h.1) in
    (omega (arith, h.1, h.2), ap (sets.contains s.members) back ∙ h.0)

-- with no numbers it has no class
pub none_is_one : (s : Limited) → IsWithin s.limit s.members → member_list s ≡ [] → (y : ℕ) → y < s.limit
    → sets.contains s.members (y + 1) ≡ false
none_is_one s within is y lt = false_from_ne_true (sets.contains s.members (y + 1))
    (λ member. let at = member_list-place s within (y + 1) member in absurd (omega (arith, at.1, ap length is)))

-- ---- the numbers of a set, one after the other

-- each of the numbers is from one to the size
abbrev pub AreUpTo : ℕ → List ℕ → Type 0
AreUpTo size rest = (n : ℕ) → Contains rest n → (1 ≤ n) × (n ≤ size)

pub listed_within : (s : Limited) → IsWithin s.limit s.members → AreUpTo s.limit (member_list s)
listed_within s within n at =
    let same : get_or (member_list s) at.0 0 ≡ n = get_or_default (member_list s) at.0 0 n at.1 ∙ at.2 in
    let m = member_list-at s at.0 at.1 in
    ((within n (ap (sets.contains s.members) (sym same) ∙ m.0)).0, omega (arith, m.1, same))

pub all_up_to : (size : ℕ) (s : Limited) (rest : List ℕ) → IsWithin s.limit s.members → s.limit ≡ size
    → rest ≡ member_list s → AreUpTo size rest
all_up_to size s rest within same is n at =
    let h = listed_within s within n (subst (λ (ns : List ℕ). Contains ns n) is at) in
    (h.0, omega (arith, h.1, same))

module _ (size : ℕ) (rest : List ℕ) (h : AreUpTo size rest) (n : ℕ) (others : List ℕ) (is : rest ≡ n ∷ others) where
  pub next_up_to : (1 ≤ n) × (n ≤ size)
  next_up_to = h n (subst (λ (ns : List ℕ). Contains ns n) (sym is) (0, omega arith, refl))

  pub others_up_to : AreUpTo size others
  others_up_to m at =
      h m (subst (λ (ns : List ℕ). Contains ns m) (sym is) (suc at.0, omega (arith, at.1), at.2))
