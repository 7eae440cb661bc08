-- The rule line that each clash and each step of a search is, and what is known in its children.
use Rattle.std.specs.Prelude.{ℕ, nat_lt, Bool, List, [], ◌∷◌, map, length, Option, Some, None, if◌then◌else◌}
use Rattle.std.specs.List.{range_with_len}
use Rattle.calculus_specs.specs.Concept.{Concept}
use Rattle.calculus_specs.specs.Normal.{negated_form}
use Rattle.calculus_specs.specs.Shape.{Shape, shape_of}
use Rattle.calculus_specs.specs.Shape.Shape.{union}
use Rattle.calculus_specs.specs.Tree.{tree_of}
use Rattle.calculus_specs.specs.Rows.{Trigger}
use Rattle.calculus_specs.specs.Rows.Trigger.{always, names, edge, end_of}
use Rattle.calculus_specs.specs.declared.facts.Fact.{Fact}
use Rattle.calculus_specs.specs.declared.facts.Fact.TheVariants.{Has, Apart, Same}
use Rattle.calculus_specs.specs.State.{node_count_from, has_edge}
use Rattle.calculus_specs.specs.Reading.{read_facts}
use Rattle.calculus_specs.specs.Line.{Line}
use Rattle.calculus_specs.specs.Line.Line.{and_line, or_line, all_line, carry_line, row_line, range_line, some_line}
use Rattle.calculus_specs.specs.Line.Line.{least_line, choose_line, pair_line, bottom_line, clash_line, most_line}
use Rattle.calculus_specs.specs.Line.Line.{fact_line, differ_line}
use Rattle.calculus_specs.specs.Rules.{Known, with_facts, children_of, Question}
use Rattle.tableau_specs.specs.declared.Branch.{Branch}
use Rattle.tableau_specs.specs.declared.Branch.TheVariants.{Or, Choose, Pair}
use Rattle.tableau_specs.specs.Clash.{IsClash}
use Rattle.tableau_specs.specs.Clash.IsClash.{of_bottom, of_names, of_most, of_differ}
use Rattle.tableau_specs.specs.Steps.{SearchContext, IsGiven, below_of, Adds, Generates}
use Rattle.tableau_specs.specs.Steps.Adds.{by_and, by_all, by_carry, by_row}
use Rattle.tableau_specs.specs.Steps.Generates.{by_some, by_least}

-- ---- what the facts of a trail make known to rule lines

-- their nodes, and themselves over trees
abbrev pub known_by : ℕ → List Shape → List (Fact ℕ) → Known
known_by first table fs =
    record { nodes = range_with_len 0 (node_count_from first fs); facts = read_facts (tree_of table) fs }

-- the concept of a number of the table
abbrev pub concept_in : List Shape → ℕ → Option Concept
concept_in table c = if nat_lt c (length table) then Some (tree_of table c) else None

-- what a question asks, over the axioms, the first nodes and the given facts of a context
abbrev pub asked_in : SearchContext → Question → Question
asked_in w q = record { theory = w.theory; sub = q.sub; sup = q.sup; first = w.first; at = q.at; fact_of = w.fact_of }

-- the children of a line in that state, in a search for what is in question
abbrev pub children_in : SearchContext → Question → List (Fact ℕ) → Line → Option (List Known)
children_in w q fs line = children_of (asked_in w q) (concept_in w.table) (known_by w.first w.table fs) line

-- ---- clashes

-- the rule line that a clash is
abbrev pub line_of_clash : (first : ℕ) (below : ℕ → ℕ → Bool) (table : List Shape) (fs : List (Fact ℕ))
    → IsClash first below table fs → Line
line_of_clash first below table fs (of_bottom x c lt h sh) = bottom_line x
line_of_clash first below table fs (of_names x c d a lt h sh g th) = clash_line x c
line_of_clash first below table fs (of_most x c n s e ys lt h sh len all apart) = most_line x c ys
line_of_clash first below table fs (of_differ y z lt mt apart same) = differ_line y z

-- ---- Add

-- the first that passes a test; 0 where none does
abbrev pub first_passing : (ℕ → Bool) → List ℕ → ℕ
first_passing p [] = 0
first_passing p (x ∷ xs) = if p x then x else first_passing p xs

-- the first node from which an edge below s leads to x
abbrev pub first_begin : SearchContext → List (Fact ℕ) → ℕ → ℕ → ℕ
first_begin w fs s x =
    first_passing (λ z. has_edge fs (λ r. below_of w r s) z x) (range_with_len 0 (node_count_from w.first fs))

-- the line of a row at x, by its axiom, its part and its trigger
abbrev pub line_of_row : SearchContext → List (Fact ℕ) → ℕ → ℕ → ℕ → Trigger → Line
line_of_row w fs x a p always = row_line x a p []
line_of_row w fs x a p (names positions) = row_line x a p positions
line_of_row w fs x a p (edge s) = row_line x a p []
line_of_row w fs x a p (end_of s) = range_line (first_begin w fs s x) x a

-- the rule line of a step that adds a concept to a node
abbrev pub line_of_add : (w : SearchContext) (fs : List (Fact ℕ)) (x d : ℕ) → Adds w fs x d → Line
line_of_add w fs x d (by_and x' c d' parts lt h sh m) = and_line x c
line_of_add w fs x d (by_all x' y c s e lt mt h sh leads) = all_line x' x c
line_of_add w fs x d (by_carry x' y c s t e d' carried sh) = carry_line x' x t c
line_of_add w fs x d (by_row x' row lt m used) = line_of_row w fs x row.axiom_number row.part_number row.trigger

-- the facts of its child: all parts of an intersection, and the one fact otherwise
abbrev pub facts_of_add : (w : SearchContext) (fs : List (Fact ℕ)) (x d : ℕ) → Adds w fs x d → List (Fact ℕ)
facts_of_add w fs x d (by_and x' c d' parts lt h sh m) = map (Has x) parts
facts_of_add w fs x d (by_all x' y c s e lt mt h sh leads) = Has x d ∷ []
facts_of_add w fs x d (by_carry x' y c s t e d' carried sh) = Has x d ∷ []
facts_of_add w fs x d (by_row x' row lt m used) = Has x d ∷ []

-- ---- given facts

-- the rule line of a step that takes a fact of an assertion
abbrev pub line_of_give : (w : SearchContext) (f : Fact ℕ) → IsGiven w f → Line
line_of_give w f given = fact_line given.axiom_number given.place

-- ---- Generate

-- the rule line of a step that makes new nodes
abbrev pub line_of_generate : (w : SearchContext) (fs new : List (Fact ℕ)) → Generates w fs new → Line
line_of_generate w fs new (by_some x c s e at h sh none) = some_line x (node_count_from w.first fs) c
line_of_generate w fs new (by_least x c n s e at h sh none) = least_line x (node_count_from w.first fs) c

-- ---- Choose

-- the rule line of a step that branches
abbrev pub line_of_branch : Branch → Line
line_of_branch (Or x c) = or_line x c
line_of_branch (Choose y e) = choose_line y e
line_of_branch (Pair y z) = pair_line y z

-- the parts of a union
abbrev pub disjuncts : Shape → List ℕ
disjuncts (union parts) = parts
disjuncts _ = []

-- the facts of the alternatives of a branch over trees, in order
abbrev pub alternatives : List Shape → Branch → List (Fact Concept)
alternatives table (Or x c) = map (λ d. Has x (tree_of table d)) (disjuncts (shape_of table c))
alternatives table (Choose y e) = Has y (tree_of table e) ∷ Has y (negated_form (tree_of table e)) ∷ []
alternatives table (Pair y z) = Same y z ∷ Apart y z ∷ []

-- what is known after one fact more
abbrev pub known_with : ℕ → List Shape → List (Fact ℕ) → Fact Concept → Known
known_with first table fs f = with_facts (known_by first table fs) (f ∷ [])

-- what is known in each child of a branch
abbrev pub children_of_branch : ℕ → List Shape → List (Fact ℕ) → Branch → List Known
children_of_branch first table fs b = map (known_with first table fs) (alternatives table b)
