-- The rule lines that the code keeps, as plain lines.
use Rattle.std.specs.Prelude.{◌≡◌, ℕ, Bool, List, [], ◌∷◌, Option, Some, None}
use Rattle.std.specs.List.{list_all}
use Rattle.shq_nnf.specs.Shape.{Shape}
use Rattle.shq_nnf.specs.Line.{Line}
use Rattle.shq_nnf.specs.Line.Line.{start_line, and_line, or_line, all_line, carry_line, row_line, range_line}
use Rattle.shq_nnf.specs.Line.Line.{some_line, least_line, choose_line, pair_line, bottom_line, clash_line}
use Rattle.shq_nnf.specs.Line.Line.{most_line, fact_line, differ_line}
use Rattle.refutation_tree.specs.Shapes.{is_concept}
use Rattle.refutation_tree.specs.declared.line.Line.{Line as Kept}
use Rattle.refutation_tree.specs.declared.line.Line.TheVariants as L

-- the plain rule line of one that the code keeps
abbrev pub line_of : Kept → Line
line_of L.Start = start_line
line_of (L.And x c) = and_line x c
line_of (L.Or x c) = or_line x c
line_of (L.All x y c) = all_line x y c
line_of (L.Carry x y r c) = carry_line x y r c
line_of (L.Row x a p is) = row_line x a p is
line_of (L.Range x y a) = range_line x y a
line_of (L.SomeOf x y c) = some_line x y c
line_of (L.Least x y c) = least_line x y c
line_of (L.Choose y c) = choose_line y c
line_of (L.Pair y z) = pair_line y z
line_of (L.Bottom x) = bottom_line x
line_of (L.Clash x c) = clash_line x c
line_of (L.Most x c ys) = most_line x c ys
line_of (L.Fact a p) = fact_line a p
line_of (L.Differ y z) = differ_line y z

-- the number of a concept that a line names
abbrev pub concept_numbers : Line → List ℕ
concept_numbers start_line = []
concept_numbers (and_line x c) = c ∷ []
concept_numbers (or_line x c) = c ∷ []
concept_numbers (all_line x y c) = c ∷ []
concept_numbers (carry_line x y r c) = c ∷ []
concept_numbers (row_line x a p is) = []
concept_numbers (range_line x y a) = []
concept_numbers (some_line x y c) = c ∷ []
concept_numbers (least_line x y c) = c ∷ []
concept_numbers (choose_line y c) = c ∷ []
concept_numbers (pair_line y z) = []
concept_numbers (bottom_line x) = []
concept_numbers (clash_line x c) = c ∷ []
concept_numbers (most_line x c ys) = c ∷ []
concept_numbers (fact_line a p) = []
concept_numbers (differ_line y z) = []

-- the number of the concept that a line names, where it names one
abbrev pub NamesConcept : Line → Option ℕ → Type 0
NamesConcept line None = concept_numbers line ≡ []
NamesConcept line (Some c) = concept_numbers line ≡ c ∷ []

-- whether each number of a concept that a line names is that of one of these shapes
abbrev pub names_concepts : List Shape → Line → Bool
names_concepts shapes line = list_all (is_concept shapes) (concept_numbers line)
