-- The refutation of lines whose concepts are numbers of a table.
use Rattle.std.specs.Prelude.{◌≡◌, ℕ, ◌+◌, ◌<◌, nat_lt, Bool, true, List, ◌∷◌, ◌++◌, map, length, All}
use Rattle.std.specs.List.{list_all}
use Rattle.axiom_sets.specs.Sets.{Limited}
use Rattle.calculus_specs.specs.Shape.{Shape}
use Rattle.calculus_specs.specs.Shape.Shape.{top}
use Rattle.calculus_specs.specs.Tree.{tree_of}
use Rattle.calculus_specs.specs.Line.{Line}
use Rattle.calculus_specs.specs.Valid.{concept_at}
use Rattle.search_trace.specs.Line.{Line as Kept}
use Rattle.search_trace.specs.RuleLine.{line_of, concept_numbers, names_concepts}
use Rattle.search_trace.specs.RefutationLists.{RefutationLists}
use Rattle.tableau_specs.specs.Lines.{concept_in}
use Rattle.search_trace.specs.Renumbered.{renumbered, Reads}
use Rattle.closed_search.specs.Numbers.{are_used, number_in}
use Rattle.closed_search.specs.Naming.{IsNaming, Grows, HasParts, KeepsKinds}
use Rattle.closed_search.specs.declared.numbering.Naming.{Naming}

-- whether each concept that a line names is one of the table's first n numbers
abbrev pub is_over : ℕ → Line → Bool
is_over n line = list_all (λ c. nat_lt c n) (concept_numbers line)

-- the lines have numbers of concepts below n alone
abbrev pub are_over : ℕ → List Line → Bool
are_over n lines = list_all (is_over n) lines

-- whether the concepts that the lines name are of a kind
abbrev pub are_of_kind : (ℕ → Bool) → List Line → Bool
are_of_kind p lines = list_all (λ l. list_all p (concept_numbers l)) lines

-- the shape of this number stands for a concept of the table that is of the kind
pub record IsOfKind (table : List Shape) (p : ℕ → Bool) (shapes : List Shape) (number : ℕ) : Type 0 where
  pub concept : ℕ
  pub listed : concept < length table
  pub is_of_kind : p concept ≡ true
  pub same : tree_of (top ∷ shapes) number ≡ tree_of table concept

-- the refutation has these axioms and these lines, with numbers of its own that stand for the same concepts
pub record IsNumbered (table : List Shape) (axioms : Limited) (lines : List Line) (r : RefutationLists) : Type 0 where
  pub axioms_are : r.axioms ≡ axioms
  pub number' : ℕ → ℕ
  pub lines_are : r.lines ≡ map (renumbered number') lines
  pub reads : All (Reads (concept_in table) (concept_at r.shapes) number') lines
  -- it names nothing but parts of what the lines name
  pub kinds : (p : ℕ → Bool) → HasParts table p → are_of_kind p lines ≡ true → (k : ℕ) → k < length r.shapes
      → IsOfKind table p r.shapes (k + 1)

-- ---- while it is made

-- each concept that the lines name is named
abbrev pub lines_used : List ℕ → List Line → Bool
lines_used used lines = list_all (λ l. are_used used (concept_numbers l)) lines

-- the line's concepts are named, and it has their numbers
pub record IsLine (table : List Shape) (old new : Naming) (line made : Line) : Type 0 where
  pub naming : IsNaming table new
  pub grown : Grows old new (length table)
  pub kinds : KeepsKinds table old new (concept_numbers line)
  pub used : are_used new.used.keys (concept_numbers line) ≡ true
  pub is : made ≡ renumbered (number_in new.used.keys) line

-- the lines that were made are those of the search, with the concepts numbered anew
pub record AreLines (table : List Shape) (old new : Naming) (lines made : List Line) : Type 0 where
  pub naming : IsNaming table new
  pub grown : Grows old new (length table)
  pub kinds : (p : ℕ → Bool) → HasParts table p → are_of_kind p lines ≡ true → list_all p old.used.keys ≡ true
      → list_all p new.used.keys ≡ true
  pub used : lines_used new.used.keys lines ≡ true
  pub are : made ≡ map (renumbered (number_in new.used.keys)) lines

-- the first of the lines are named and made, and the rest are over the table too
pub record IsNamingLines (table : List Shape) (old now : Naming) (lines first rest made : List Kept) : Type 0 where
  pub split : first ++ rest ≡ lines
  pub over : are_over (length table) (map line_of rest) ≡ true
  pub are : AreLines table old now (map line_of first) (map line_of made)

-- of the lines that are to be put, the rest are left
pub record IsPutting (old now : RefutationLists) (lines rest : List Kept) : Type 0 where
  pub sum : now.lines ++ map line_of rest ≡ old.lines ++ map line_of lines
  pub same_shapes : now.shapes ≡ old.shapes
  pub same_axioms : now.axioms ≡ old.axioms
  pub names : list_all (names_concepts old.shapes) (map line_of rest) ≡ true
