-- Runs of a search: all their trails, and what was ever put into one.
use Rattle.std.specs.Prelude.{◌≡◌, ℕ, ◌≤◌, ◌==◌, nat_lt, ◌&&◌, ◌||◌, Bool, true, false, List, [], ◌∷◌, All, Contains}
use Rattle.std.specs.Prelude.{if◌then◌else◌}
use Rattle.std.specs.List.{list_any}
use Rattle.calculus_specs.specs.Concept.{name as class, complement}
use Rattle.calculus_specs.specs.Normal.{negated_form}
use Rattle.calculus_specs.specs.Shape.{Shape, shape_of}
use Rattle.calculus_specs.specs.Tree.{tree_of}
use Rattle.calculus_specs.specs.Shape.Shape.{name, not_name, union, some_of, at_least, at_most}
use Rattle.calculus_specs.specs.State.{node_count_from, has}
use Rattle.calculus_specs.specs.declared.facts.Fact.{Fact}
use Rattle.calculus_specs.specs.declared.facts.Fact.TheVariants.{Has, Edge, Apart, Same}
use Rattle.tableau_specs.specs.declared.Item.{Item}
use Rattle.tableau_specs.specs.Items.{facts_of}
use Rattle.tableau_specs.specs.Steps.{SearchContext, IsLegal}

-- the trails of a run, the latest one first: the earliest one is `first`, and each other one comes from the one before
-- it by a legal step
abbrev pub IsRun : SearchContext → List Item → List (List Item) → Type 0
IsRun w first [] = ⊥
IsRun w first (trail ∷ []) = trail ≡ first
IsRun w first (trail ∷ before ∷ earlier) = IsLegal w before trail × IsRun w first (before ∷ earlier)

-- whether some trail of the run has a fact that passes the test. Going back takes facts out of a trail, and none out of
-- the run
abbrev pub was_ever : (Fact ℕ → Bool) → List (List Item) → Bool
was_ever p run = list_any (λ trail. list_any p (facts_of trail)) run

-- whether the fact gives a node the concept
abbrev pub puts : ℕ → Fact ℕ → Bool
puts c (Has x d) = d == c
puts c (Edge r x y) = false
puts c (Apart y z) = false
puts c (Same y z) = false

-- whether the fact gives the node `at` the concept
abbrev pub puts_at : ℕ → ℕ → Fact ℕ → Bool
puts_at at c (Has x d) = x == at && d == c
puts_at at c (Edge r x y) = false
puts_at at c (Apart y z) = false
puts_at at c (Same y z) = false

-- whether the fact says that the node is one with another
abbrev pub joins_node : ℕ → Fact ℕ → Bool
joins_node at (Has x d) = false
joins_node at (Edge r x y) = false
joins_node at (Apart y z) = false
joins_node at (Same y z) = y == at || z == at

-- whether the shape asks of successors by a role that they have a filler
abbrev pub has_filler : ℕ → ℕ → Shape → Bool
has_filler s e (some_of r c) = r == s && c == e
has_filler s e (at_least n r c) = r == s && c == e
has_filler s e (at_most n r c) = r == s && c == e
has_filler s e _ = false

-- by the trail node x has a concept besides c and top, which is number 0, that no trail of the run gives the node `at`
pub record HasItsOwn (at : ℕ) (run : List (List Item)) (trail : List Item) (x c : ℕ) : Type 0 where
  pub concept : ℕ
  pub holds : has (facts_of trail) x concept ≡ true
  pub is_never_there : was_ever (puts_at at concept) run ≡ false
  pub is_not_top : ¬ (concept ≡ 0)
  pub is_another : ¬ (concept ≡ c)

-- where the trail gives the complement of class a to a node that is no first one, this node has a concept of its own
-- besides. So the node `at` does not block it, with the complement or without
abbrev pub SetsApart : ℕ → ℕ → List Shape → List (List Item) → ℕ → List Item → Type 0
SetsApart first at table run a trail =
    (x c : ℕ) → first ≤ x → list_any (puts_at x c) (facts_of trail) ≡ true → shape_of table c ≡ not_name a
    → HasItsOwn at run trail x c

-- whether the later one of two trails has more nodes
abbrev pub makes_node : ℕ → List Item → List Item → Bool
makes_node first before trail =
    nat_lt (node_count_from first (facts_of before)) (node_count_from first (facts_of trail))

-- the trails of the run from which it goes on by a step that makes a node. No other step asks which nodes are blocked
abbrev pub before_nodes : ℕ → List (List Item) → List (List Item)
before_nodes first [] = []
before_nodes first (trail ∷ []) = []
before_nodes first (trail ∷ before ∷ earlier) =
    if makes_node first before trail then before ∷ before_nodes first (before ∷ earlier)
    else before_nodes first (before ∷ earlier)

-- the trails of the run whose blocks are asked for: the latest one, which is saturated only where no open node asks for
-- more nodes, and these
abbrev pub asked_for_blocks : ℕ → List (List Item) → List (List Item)
asked_for_blocks first [] = []
asked_for_blocks first (trail ∷ earlier) = trail ∷ before_nodes first (trail ∷ earlier)

-- The run has nothing to do with whether the node `at` is in class a. No trail gives this node the class, its
-- complement, or a union of which the complement is a part. And wherever blocks are asked for, each other node that was
-- given the complement is a first one, which is never blocked, or has a concept that the node `at` never has
pub record LeavesOut (first at : ℕ) (table : List Shape) (run : List (List Item)) (a : ℕ) : Type 0 where
  pub class_is_not_there : (c : ℕ) → was_ever (puts_at at c) run ≡ true → ¬ (shape_of table c ≡ name a)
  pub unions_there_lack_complement : (c d : ℕ) (parts : List ℕ) → was_ever (puts_at at c) run ≡ true
      → shape_of table c ≡ union parts → Contains parts d
      → ¬ (shape_of table d ≡ not_name a)
  pub complement_is_not_there : (c : ℕ) → was_ever (puts_at at c) run ≡ true → ¬ (shape_of table c ≡ not_name a)
  pub complement_is_apart : All (SetsApart first at table run a) (asked_for_blocks first run)

-- the same where edges may lead to the node `at`, as to that of an individual: no trail joins it to another node, and
-- none gives a node a concept that asks of successors whether they are in the complement, or counts those in the class
pub record LeavesOutAt (first at : ℕ) (table : List Shape) (run : List (List Item)) (a : ℕ) : Type 0 where
  pub leaves_out : LeavesOut first at table run a
  pub is_never_joined : was_ever (joins_node at) run ≡ false
  pub complement_is_no_filler : (c s e : ℕ) → was_ever (puts c) run ≡ true → has_filler s e (shape_of table c) ≡ true
      → ¬ (shape_of table e ≡ not_name a)
  pub class_is_not_counted : (c m s e : ℕ) → was_ever (puts c) run ≡ true → shape_of table c ≡ at_most m s e
      → ¬ (negated_form (tree_of table e) ≡ complement (class a))
