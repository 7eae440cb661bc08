-- Two facts compare alike as they are the same.
use Rattle.std.proofs.Common.{◌≡◌, ℕ, eqb, ◌||◌, List, [], ◌∷◌, refl}
use Rattle.std.specs.List.{list_any}
use Rattle.calculus_specs.proofs.State.{eqb-comm}
use Rattle.branch_facts.specs.declared.seen.Seen.{Seen}
use Rattle.branch_facts.specs.declared.seen.Seen.TheVariants.{Has, Edge, Apart}
use Rattle.branch_facts.specs.contracts.seen.SeenPartialEq.TheImpl.{ghosts}
use Rattle.branch_facts.specs.Seen.{is_same}

pub eq_is : (a b : Seen) → ghosts.eq a b ≡ is_same a b
eq_is (Has x c) (Has y d) = refl
eq_is (Edge r x y) (Edge s v w) = refl
eq_is (Apart x y) (Apart v w) = refl
eq_is (Has x c) (Edge s v w) = refl
eq_is (Has x c) (Apart v w) = refl
eq_is (Edge r x y) (Has v d) = refl
eq_is (Edge r x y) (Apart v w) = refl
eq_is (Apart x y) (Has v d) = refl
eq_is (Apart x y) (Edge s v w) = refl

pub knows_is : (xs : List ℕ) (x : ℕ) → list_any (eqb x) xs ≡ list_any (λ y. eqb y x) xs
knows_is [] x = refl
knows_is (y ∷ ys) x = λ i. eqb-comm x y i || knows_is ys x i
