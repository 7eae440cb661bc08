-- The alternatives of a branch by their places.
use Rattle.std.proofs.Common.{◌≡◌, ℕ, zero, suc, ◌+◌, ◌<◌, List, [], ◌∷◌, length, Some, refl, sym, subst, arith}
use Rattle.std.proofs.Common.{slice_index_or}
use Rattle.std.specs.Prelude.{slice_get}
use Rattle.calculus_specs.specs.Shape.{Shape, shape_of}
use Rattle.calculus_specs.specs.Shape.Shape.{union}
use Rattle.calculus_specs.specs.Tree.{IsComplement}
use Rattle.calculus_specs.specs.declared.facts.Fact.TheVariants.{Has, Same, Apart}
use Rattle.tableau_specs.specs.declared.Branch.TheVariants.{Or, Choose, Pair}
use Rattle.tableau_specs.specs.Steps.{IsAlternative, of_union, of_filler, of_complement, of_joining, of_parting}
use Rattle.step_lines.specs.Kinds.{part_count}

get_there : (ds : List ℕ) (k : ℕ) → k < length ds → slice_get ds k ≡ Some (slice_index_or ds k 0)
get_there [] k lt = absurd (omega (arith, lt))
get_there (d ∷ ds) zero lt = refl
get_there (d ∷ ds) (suc k) lt = get_there ds k (omega (arith, lt))

pub of_part : (table : List Shape) (c k : ℕ) (parts : List ℕ) → union parts ≡ shape_of table c
    → k < part_count (shape_of table c) → (x : ℕ)
    → IsAlternative table (Or x c) (k + 1) (Has x (slice_index_or parts k 0))
of_part table c k parts is lt x =
    of_union x c k (slice_index_or parts k 0) parts (sym is)
    (get_there parts k (subst (λ (s : Shape). k < part_count s) (sym is) lt))

pub of_first : (table : List Shape) (k y c : ℕ) → k ≡ 0 → IsAlternative table (Choose y c) (k + 1) (Has y c)
of_first table k y c is = subst (λ (n : ℕ). IsAlternative table (Choose y c) (n + 1) (Has y c)) (sym is) (of_filler y c)

pub of_second : (table : List Shape) (k y c d : ℕ) → k ≡ 1 → IsComplement table c d
    → IsAlternative table (Choose y c) (k + 1) (Has y d)
of_second table k y c d is complement =
    subst (λ (n : ℕ). IsAlternative table (Choose y c) (n + 1) (Has y d)) (sym is) (of_complement y c d complement)

pub joined : (table : List Shape) (k y z : ℕ) → k ≡ 0 → IsAlternative table (Pair y z) (k + 1) (Same y z)
joined table k y z is = subst (λ (n : ℕ). IsAlternative table (Pair y z) (n + 1) (Same y z)) (sym is) (of_joining y z)

pub parted : (table : List Shape) (k y z : ℕ) → k ≡ 1 → IsAlternative table (Pair y z) (k + 1) (Apart y z)
parted table k y z is = subst (λ (n : ℕ). IsAlternative table (Pair y z) (n + 1) (Apart y z)) (sym is) (of_parting y z)
