-- How many nodes new facts make.
use Rattle.std.proofs.Common.{◌≡◌, ℕ, zero, suc, ◌+◌, ◌≤◌, true, false, List, ◌++◌, arith}
use Rattle.calculus_specs.specs.declared.facts.Fact.{Fact}
use Rattle.calculus_specs.specs.State.{node_count_from}
use Rattle.tableau_specs.specs.Steps.{SearchContext, Generates, is_run}
use Rattle.tableau_specs.specs.Steps.Generates.{by_some, by_least}
use Rattle.tableau_specs.proofs.GenerateLines.{count-append, count-fresh}

pub count_front : (first : ℕ) (fs gs : List (Fact ℕ)) → node_count_from first fs ≤ node_count_from first (fs ++ gs)
count_front first fs gs = omega (arith, count-append first fs gs)

-- an 'at least 0' is met everywhere
pub not_none : (w : SearchContext) (fs : List (Fact ℕ)) (x s e : ℕ) → ¬ ((y : ℕ) → is_run w fs x s e 0 y ≡ false)
not_none w fs x s e h = let k : true ≡ false = h 0 in cc

pub generates_more : (w : SearchContext) (fs new : List (Fact ℕ)) → Generates w fs new
    → node_count_from w.first fs + 1 ≤ node_count_from w.first (fs ++ new)
generates_more w fs new (by_some x c s e at h sh none) = omega (arith, count-fresh w.first fs x s e 1)
generates_more w fs new (by_least x c zero s e at h sh none) = absurd (not_none w fs x s e none)
generates_more w fs new (by_least x c (suc n) s e at h sh none) = omega (arith, count-fresh w.first fs x s e (suc n))
