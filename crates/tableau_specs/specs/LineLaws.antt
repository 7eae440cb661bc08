-- Each clash and each step of a search is a rule line of a refutation: its premises hold, and its children know what
-- the step adds.
use Rattle.std.specs.Prelude.{◌≡◌, ℕ, ◌+◌, ◌^◌, ◌<◌, ◌≤◌, true, List, [], ◌∷◌, ◌++◌, length, Some, slice_get, Contains}
use Rattle.calculus_specs.specs.Concept.{Concept}
use Rattle.calculus_specs.specs.Shape.{Shape, IsTable}
use Rattle.calculus_specs.specs.Tree.{tree_of, IsComplement}
use Rattle.calculus_specs.specs.Rows.{Theory, part_at, IsChoice}
use Rattle.calculus_specs.specs.Rows.Part.{range}
use Rattle.calculus_specs.specs.declared.facts.Fact.{Fact}
use Rattle.calculus_specs.specs.declared.facts.Fact.TheVariants.{Has}
use Rattle.calculus_specs.specs.State.{node_count_from}
use Rattle.calculus_specs.specs.Reading.{read_fact, read_facts, are_listed}
use Rattle.calculus_specs.specs.Line.{Line}
use Rattle.calculus_specs.specs.Rules.{Question, Known, with_facts}
use Rattle.tableau_specs.specs.declared.Branch.{Branch}
use Rattle.tableau_specs.specs.declared.Branch.TheVariants.{Or, Choose, Pair}
use Rattle.tableau_specs.specs.Clash.{IsClash}
use Rattle.tableau_specs.specs.Steps.{SearchContext, IsGiven, below_of, Adds, Generates, MayBranch, IsAlternative}
use Rattle.tableau_specs.specs.Lines.{known_by, known_with, children_in, line_of_clash, line_of_add, facts_of_add}
use Rattle.tableau_specs.specs.Lines.{line_of_give, line_of_generate, line_of_branch, children_of_branch}

-- the facts are over a table of concepts in normal form
pub record IsOver (w : SearchContext) (fs : List (Fact ℕ)) : Type 0 where
  pub is_table : IsTable w.table
  pub listed : are_listed (length w.table) fs ≡ true

-- ---- clashes

-- the line of a clash has its premises, and no children
abbrev pub ClashesAreLines : Type 0
ClashesAreLines = (w : SearchContext) (q : Question) (fs : List (Fact ℕ)) → IsOver w fs
    → (clash : IsClash w.first (below_of w) w.table fs)
    → children_in w q fs (line_of_clash w.first (below_of w) w.table fs clash) ≡ Some []

-- each line that has its premises and no children tells a clash
abbrev pub ChildlessLinesAreClashes : Type 0
ChildlessLinesAreClashes =
    (w : SearchContext) (q : Question) (fs : List (Fact ℕ)) → IsOver w fs → (line : Line)
    → children_in w q fs line ≡ Some [] → IsClash w.first (below_of w) w.table fs

-- ---- steps without a choice

-- the part that says a range is the first of its axiom
abbrev pub RangesAreFirst : Theory → Type 0
RangesAreFirst theory = (a p s : ℕ) (d : Concept) → part_at theory a p ≡ Some (range s d) → p ≡ 1

-- the line of an Add has one child, which knows the facts of the Add and so what is added
pub record AddIsLine (w : SearchContext) (q : Question) (fs : List (Fact ℕ)) (x d : ℕ) (adds : Adds w fs x d) :
    Type 0 where
  pub child : children_in w q fs (line_of_add w fs x d adds)
      ≡ Some (with_facts (known_by w.first w.table fs) (read_facts (tree_of w.table) (facts_of_add w fs x d adds)) ∷ [])
  pub is_added : Contains (facts_of_add w fs x d adds) (Has x d)

-- each step that adds a concept to a node is a rule line
abbrev pub AddsAreLines : Type 0
AddsAreLines = (w : SearchContext) (q : Question) (fs : List (Fact ℕ)) → IsOver w fs → IsChoice w.theory w.table w.rows
    → RangesAreFirst w.theory
    → (x d : ℕ) (adds : Adds w fs x d) → AddIsLine w q fs x d adds

-- the line of a given fact has one child, which knows exactly what the longer trail makes known
abbrev pub GivesAreLines : Type 0
GivesAreLines = (w : SearchContext) (q : Question) (fs : List (Fact ℕ)) → 0 < w.first
    → (f : Fact ℕ) (given : IsGiven w f)
    → children_in w q fs (line_of_give w f given) ≡ Some (known_by w.first w.table (fs ++ f ∷ []) ∷ [])

-- the line of a Generate has one child, which knows exactly what the longer trail makes known
abbrev pub GeneratesAreLines : Type 0
GeneratesAreLines = (w : SearchContext) (q : Question) (fs new : List (Fact ℕ)) → IsOver w fs
    → (generates : Generates w fs new) → node_count_from w.first (fs ++ new) ≤ 2 ^ 32
    → children_in w q fs (line_of_generate w fs new generates) ≡ Some (known_by w.first w.table (fs ++ new) ∷ [])

-- ---- choices

-- each alternative of the branch has a number of the table for its concept
abbrev pub IsNumbered : List Shape → Branch → Type 0
IsNumbered table (Or x c) = Unit {0}
IsNumbered table (Choose y e) = (d : ℕ) × IsComplement table e d
IsNumbered table (Pair y z) = Unit {0}

-- the children of a branch are its alternatives, in order: alternative k + 1 is the child at place k, each child is an
-- alternative, and the numbers of the alternatives are those from 1 to the number of the children
pub record AlternativesAreChildren (first : ℕ) (table : List Shape) (fs : List (Fact ℕ)) (b : Branch) : Type 0 where
  pub each : (k : ℕ) (f : Fact ℕ) → IsAlternative table b (k + 1) f
      → slice_get (children_of_branch first table fs b) k
      ≡ Some (known_with first table fs (read_fact (tree_of table) f))
  pub only : IsNumbered table b → (k : ℕ) (child : Known)
      → slice_get (children_of_branch first table fs b) k ≡ Some child
      → (f : Fact ℕ) × IsAlternative table b (k + 1) f
      × (child ≡ known_with first table fs (read_fact (tree_of table) f))
  pub in_range : (n : ℕ) (f : Fact ℕ) → IsAlternative table b n f
      → (0 < n) × (n ≤ length (children_of_branch first table fs b))

-- the line of a branch on which there is something to choose has its premises, and the alternatives as its children
pub record BranchIsLine (w : SearchContext) (q : Question) (fs : List (Fact ℕ)) (b : Branch) : Type 0 where
  pub children : children_in w q fs (line_of_branch b) ≡ Some (children_of_branch w.first w.table fs b)
  pub alternatives : AlternativesAreChildren w.first w.table fs b

-- each step that branches is a rule line
abbrev pub BranchesAreLines : Type 0
BranchesAreLines = (w : SearchContext) (q : Question) (fs : List (Fact ℕ)) → IsOver w fs → (b : Branch)
    → MayBranch w fs b → BranchIsLine w q fs b
