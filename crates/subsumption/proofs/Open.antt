-- Which pairs of a class are open.
use Rattle.std.proofs.Common.{◌≡◌, ℕ, ◌+◌, ◌<◌, ◌&&◌, ◌||◌, not, Bool, true, false, Option, Some, None, refl, sym, ap}
use Rattle.std.proofs.Common.{◌∙◌, arith}
use Rattle.std.specs.Prelude.{MatchOption, nat_le}
use Rattle.std.specs.FinSet as sets
use Rattle.std.specs.Cmp.{nat_cmp_total}
use Rattle.std.proofs.lemmas.Bool.{and_from, le-leb, not-true, not-false, not_from_false, false_from_ne_true}
use Rattle.lane_sieve.specs.Sets.{NumberSet}
use Rattle.axiom_sets.specs.Sets.{Limited, IsFull}
use Rattle.subsumption.specs.Matrices.{has}
use Rattle.subsumption.specs.Rows.{holds}
use Rattle.subsumption.specs.declared.progress.Progress.{Progress}
use Rattle.subsumption.specs.Progress.{is_settled, StaysSettled, IsOpenAt, HasOpen}

-- a set of all classes has those that are open
pub all_open : (p : Progress) (x : ℕ) (classes : Limited) → IsFull (p.known.count + 2) classes.members
    → HasOpen p x classes
all_open p x classes full y lt is =
    full (y + 1)
    ∙ and_from (nat_le 1 (y + 1)) (nat_le (y + 1) (p.known.count + 2)) (le-leb 1 (y + 1) (omega arith))
    (le-leb (y + 1) (p.known.count + 2) (omega (arith, lt)))

-- and one that has them still does, where the pairs that were settled still are
pub still_has_open : (old new : Progress) (x : ℕ) (classes : Limited) → x < old.known.count + 2
    → new.known.count ≡ old.known.count → StaysSettled old new → HasOpen old x classes → HasOpen new x classes
still_has_open old new x classes lx same stays has_open y lt is =
    let ly : y < old.known.count + 2 = omega (arith, lt, same) in
    has_open y ly
    (false_from_ne_true (is_settled old x y) (λ k. let t : is_settled new x y ≡ true = stays x y lx ly k in cc))

-- what is left of such a set when those that are settled are taken out
left : (c a b : Bool) → ((a || b) ≡ false → c ≡ true) → ((c && not a) && not b) ≡ not (a || b)
left true true b h = refl
left false true b h = refl
left true false true h = refl
left false false true h = refl
left true false false h = refl
left false false false h = h refl

pub left_open : (p : Progress) (x : ℕ) (classes : Limited) (above row : NumberSet) → HasOpen p x classes
    → ((y : ℕ) → y < p.known.count + 2 → sets.contains above (y + 1) ≡ holds p.known x y)
    → ((y : ℕ) → sets.contains row (y + 1) ≡ has p.ruled_out x y)
    → (y : ℕ) → y < p.known.count + 2
    → sets.contains (sets.difference (sets.difference classes.members above) row) (y + 1) ≡ not (is_settled p x y)
left_open p x classes above row has_open is_above is_out y lt =
    sets.contains-difference nat_cmp_total (sets.difference classes.members above) row (y + 1)
    ∙ ap (λ (t : Bool). t && not (sets.contains row (y + 1)))
    (sets.contains-difference nat_cmp_total classes.members above (y + 1))
    ∙ (λ i. (sets.contains classes.members (y + 1) && not (is_above y lt i)) && not (is_out y i))
    ∙ left (sets.contains classes.members (y + 1)) (holds p.known x y) (has p.ruled_out x y) (has_open y lt)

-- what is found among the classes that are left is open, and where none is found each pair is settled
pub found_open : (p : Progress) (x : ℕ) (left : NumberSet)
    → ((y : ℕ) → y < p.known.count + 2 → sets.contains left (y + 1) ≡ not (is_settled p x y))
    → (r : Option ℕ)
    → MatchOption r ((y : ℕ) → y < p.known.count + 2 → sets.contains left (y + 1) ≡ false)
    (λ y. (y < p.known.count + 2) × (sets.contains left (y + 1) ≡ true))
    → IsOpenAt p x r
found_open p x left is None h = λ y lt. not-false (is_settled p x y) (sym (is y lt) ∙ h y lt)
found_open p x left is (Some y) h = (h.0, not-true (is_settled p x y) (sym (is y h.0) ∙ h.1))

pub found_has_open : (p : Progress) (x : ℕ) (classes : Limited)
    → ((y : ℕ) → y < p.known.count + 2 → sets.contains classes.members (y + 1) ≡ not (is_settled p x y))
    → HasOpen p x classes
found_has_open p x classes is y lt open_yet = is y lt ∙ not_from_false (is_settled p x y) open_yet
