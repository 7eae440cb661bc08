-- Laws of what facts say.
use Rattle.std.specs.Prelude.{◌≡◌, ℕ, ◌<◌, ◌≤◌, ◌==◌, Bool, true, List, length}
use Rattle.std.specs.List.{list_any}
use Rattle.calculus_specs.specs.Shape.{Shape, IsTable}
use Rattle.calculus_specs.specs.Tree.{tree_of}
use Rattle.calculus_specs.specs.declared.facts.Fact.{Fact}
use Rattle.calculus_specs.specs.Joins.{rep, IsJoined}
use Rattle.calculus_specs.specs.State.{node_count_from, parent_from, has, has_tree, has_edge, label, are_apart}
use Rattle.calculus_specs.specs.Reading.{read_facts, are_listed}

-- a representative is joined to its node, and no node joined to that one is less
abbrev pub RepsAreLeast : (C : Type 0) → Type 0
RepsAreLeast C = (fs : List (Fact C)) (x : ℕ) → IsJoined fs x (rep fs x) × ((y : ℕ) → IsJoined fs x y → rep fs x ≤ y)

-- a number is in a node's label exactly where the node has it
abbrev pub LabelIsHeld : Type 0
LabelIsHeld = (fs : List (Fact ℕ)) (x c : ℕ) → list_any (λ d. d == c) (label fs x) ≡ has fs x c

-- the order of two nodes does not matter
abbrev pub ApartIsSymmetric : (C : Type 0) → Type 0
ApartIsSymmetric C = (fs : List (Fact C)) (x y : ℕ) → are_apart fs x y ≡ are_apart fs y x

-- what a reading of the concepts leaves as it is
pub record KeepsState (C D : Type 0) (read : C → D) (fs : List (Fact C)) : Type 0 where
  pub reps : (x : ℕ) → rep (read_facts read fs) x ≡ rep fs x
  pub nodes : (first : ℕ) → node_count_from first (read_facts read fs) ≡ node_count_from first fs
  pub parents : (first x : ℕ) → parent_from first (read_facts read fs) x ≡ parent_from first fs x
  pub edges : (roles : ℕ → Bool) (x y : ℕ) → has_edge (read_facts read fs) roles x y ≡ has_edge fs roles x y
  pub aparts : (x y : ℕ) → are_apart (read_facts read fs) x y ≡ are_apart fs x y

-- a reading of the concepts changes no node, edge or joining
abbrev pub ReadingKeepsState : (C D : Type 0) → Type 0
ReadingKeepsState C D = (read : C → D) (fs : List (Fact C)) → KeepsState C D read fs

-- a node has the tree of a number exactly where it has the number
abbrev pub NumbersReadAsTrees : Type 0
NumbersReadAsTrees = (table : List Shape) → IsTable table → (fs : List (Fact ℕ)) → are_listed (length table) fs ≡ true
    → (x c : ℕ) → c < length table → has_tree (read_facts (tree_of table) fs) x (tree_of table c) ≡ has fs x c
