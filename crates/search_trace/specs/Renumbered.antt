-- Lines whose concept numbers are replaced.
use Rattle.std.specs.Prelude.{◌≡◌, ℕ, Option, All}
use Rattle.calculus_specs.specs.Concept.{Concept}
use Rattle.calculus_specs.specs.Line.{Line}
use Rattle.calculus_specs.specs.Line.Line.{start_line, and_line, or_line, all_line, carry_line, row_line, range_line}
use Rattle.calculus_specs.specs.Line.Line.{some_line, least_line, choose_line, pair_line, bottom_line, clash_line}
use Rattle.calculus_specs.specs.Line.Line.{most_line, fact_line, differ_line}
use Rattle.refutation_tree.specs.RuleLine.{concept_numbers}

-- the line with each number of a concept replaced
abbrev pub renumbered : (ℕ → ℕ) → Line → Line
renumbered f (and_line x c) = and_line x (f c)
renumbered f (or_line x c) = or_line x (f c)
renumbered f (all_line x y c) = all_line x y (f c)
renumbered f (carry_line x y t c) = carry_line x y t (f c)
renumbered f (some_line x y c) = some_line x y (f c)
renumbered f (least_line x y c) = least_line x y (f c)
renumbered f (choose_line y c) = choose_line y (f c)
renumbered f (clash_line x c) = clash_line x (f c)
renumbered f (most_line x c ys) = most_line x (f c) ys
renumbered f start_line = start_line
renumbered f (row_line x a p positions) = row_line x a p positions
renumbered f (range_line x y a) = range_line x y a
renumbered f (pair_line y z) = pair_line y z
renumbered f (bottom_line x) = bottom_line x
renumbered f (fact_line a p) = fact_line a p
renumbered f (differ_line y z) = differ_line y z

-- the new numbers stand for the concepts that the old ones stand for
abbrev pub Reads : (ℕ → Option Concept) → (ℕ → Option Concept) → (ℕ → ℕ) → Line → Type 0
Reads old new f line = All (λ c. new (f c) ≡ old c) (concept_numbers line)
