-- What one number of a table needs.
use Rattle.std.specs.Prelude.{◌≡◌, ℕ, ◌<◌, ◌==◌, ◌⊎◌, Bool, true, List, length}
use Rattle.std.specs.List.{list_any}
use Rattle.calculus_specs.specs.Shape.{Shape, shape_of}
use Rattle.calculus_specs.specs.Shape.Shape.{all_of, at_most}
use Rattle.calculus_specs.specs.Tree.{IsComplement}
use Rattle.row_cache.specs.RoleAxiom.{RoleAxiom}
use Rattle.row_cache.specs.Steps.{is_transitive}
use Rattle.row_cache.specs.Paths.{is_below}
use Rattle.absorption.specs.declared.closing.Need.{Need}
use Rattle.absorption.specs.declared.closing.Need.TheVariants.{Nothing, Complement, Carries}

-- what a shape needs that a table has besides it
abbrev pub need_of_shape : Shape → Need
need_of_shape (all_of s e) = Carries s e
need_of_shape (at_most n s e) = Complement e
need_of_shape _ = Nothing

-- 'all t e' has a number
abbrev pub HasAll : List Shape → ℕ → ℕ → Type 0
HasAll table t e = (d : ℕ) × (d < length table) × (shape_of table d ≡ all_of t e)

-- what is needed besides the parts of the number's shape
pub record HasNeeded (below : ℕ → ℕ → Bool) (is_transitive : ℕ → Bool) (table : List Shape) (c : ℕ) : Type 0 where
  pub complements : (n s e : ℕ) → shape_of table c ≡ at_most n s e → (d : ℕ) × IsComplement table e d
  pub carried : (s e t : ℕ) → shape_of table c ≡ all_of s e → is_transitive t ≡ true → below t s ≡ true
      → HasAll table t e

-- each transitive role that is below another is in the list
pub record HasTransitiveRoles (roles : List RoleAxiom) (found : List ℕ) : Type 0 where
  pub every : (t s : ℕ) → is_transitive roles t ≡ true → is_below roles t s ≡ true
      → (t ≡ s) ⊎ (list_any (λ r. r == t) found ≡ true)

-- 'all' over each of the roles below s has a number
pub record AreCarried (below : ℕ → ℕ → Bool) (table : List Shape) (found : List ℕ) (s e : ℕ) : Type 0 where
  pub each : (t : ℕ) → list_any (λ r. r == t) found ≡ true → below t s ≡ true → HasAll table t e
