-- The text of a refutation is read back.
use Rattle.std.specs.Prelude.{◌≡◌, ℕ, ◌^◌, ◌<◌, Bool, true, false, nat_lt, IsTrue, List, [], ◌∷◌, length, Some}
use Rattle.std.specs.List.{list_all}
use Rattle.axiom_sets.specs.Sets.{IsWithin}
use Rattle.certificate_lines.specs.Lines.{lines}
use Rattle.certificate_lines.specs.Names.{AreNames}
use Rattle.certificate_lines.specs.Listed.{Listed}
use Rattle.shq_nnf.specs.Line.{Line}
use Rattle.shq_nnf.specs.Line.Line.{start_line, and_line, or_line, all_line, carry_line, row_line, range_line}
use Rattle.shq_nnf.specs.Line.Line.{some_line, least_line, choose_line, pair_line, bottom_line, clash_line}
use Rattle.shq_nnf.specs.Line.Line.{most_line, fact_line, differ_line}
use Rattle.refutation_tree.specs.RefutationLists.{RefutationLists, IsKept}
use Rattle.refutation_tree.specs.RefutationText.{refutation_of}
use Rattle.refutation_tree.specs.Written.{line_numbers, names_are_listed, refutation_text}

-- a line `most` names a node
abbrev pub has_nodes : Line → Bool
has_nodes start_line = true
has_nodes (and_line x c) = true
has_nodes (or_line x c) = true
has_nodes (all_line x y c) = true
has_nodes (carry_line x y r c) = true
has_nodes (row_line x a p is) = true
has_nodes (range_line x y a) = true
has_nodes (some_line x y c) = true
has_nodes (least_line x y c) = true
has_nodes (choose_line y c) = true
has_nodes (pair_line y z) = true
has_nodes (bottom_line x) = true
has_nodes (clash_line x c) = true
has_nodes (most_line x c []) = false
has_nodes (most_line x c (y ∷ ys)) = true
has_nodes (fact_line a p) = true
has_nodes (differ_line y z) = true

-- the numbers of a line fit 32 bits
abbrev pub is_small : Line → Bool
is_small line = list_all (λ n. nat_lt n (2 ^ 32)) (line_numbers line)

-- a refutation over the axioms of the document and over listed names, whose lines can be written
pub record IsWritable (o : Listed) (k : RefutationLists) : Type 0 where
  pub kept : IsKept k.shapes k.lines
  pub limit : k.axioms.limit ≡ length o.axioms
  pub within : IsWithin k.axioms.limit k.axioms.members
  pub few_axioms : length o.axioms < 2 ^ 32
  pub listed : IsTrue (names_are_listed o k)
  pub have_nodes : IsTrue (list_all has_nodes k.lines)
  pub are_small : IsTrue (list_all is_small k.lines)

-- the lines of a refutation's text stand for this refutation
abbrev pub RefutationsAreReadBack : Type 0
RefutationsAreReadBack = (o : Listed) (k : RefutationLists) → AreNames o.classes → AreNames o.roles → IsWritable o k
    → refutation_of o (lines (refutation_text o k)) ≡ Some k

-- what is read over a document can be written
abbrev pub ReadIsWritable : Type 0
ReadIsWritable = (o : Listed) (ls : List (List ℕ)) (k : RefutationLists) → length o.axioms < 2 ^ 32
    → refutation_of o ls ≡ Some k → IsWritable o k
