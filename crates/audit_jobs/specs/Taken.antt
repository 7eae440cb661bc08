-- One of a list is taken out, which is told by a set of axioms.
use Rattle.std.specs.Prelude.{◌≡◌, List, Contains}
use Rattle.axiom_sets.specs.Sets.{Limited}

-- x is one of the list with this set, all with other sets stay, and none comes in
pub record TakesOut {X : Type 0} (set_of : X → Limited) (s : Limited) (old new : List X) (x : X) : Type 0 where
  pub is_of : set_of x ≡ s
  pub was : Contains old x
  pub others : (y : X) → Contains old y → ¬ (set_of y ≡ s) → Contains new y
  pub fewer : (y : X) → Contains new y → Contains old y
