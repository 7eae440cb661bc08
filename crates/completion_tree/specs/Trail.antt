-- The entries of a trail.
use Rattle.std.specs.Prelude.{◌≡◌, ℕ, ◌+◌, Bool, true, false, List, [], ◌∷◌, ◌++◌, Some, map, slice_get, if◌then◌else◌}
use Rattle.calculus_specs.specs.declared.facts.Fact.{Fact}
use Rattle.calculus_specs.specs.declared.facts.Fact.TheVariants.{Has, Edge, Apart, Same}
use Rattle.calculus_specs.specs.State.{node_count_from, fresh_facts}
use Rattle.tableau_specs.specs.declared.Choice.{Choice}
use Rattle.tableau_specs.specs.declared.Item.{Item}
use Rattle.tableau_specs.specs.declared.Item.TheVariants.{Fact as Says, Mark as Marks}
use Rattle.completion_tree.specs.declared.tree.By.{By}
use Rattle.completion_tree.specs.declared.tree.Entry.{Entry}
use Rattle.completion_tree.specs.declared.tree.Entry.TheVariants.{Fact as Grounded, Mark}

-- the entries of a trail over the first nodes, which are those below `first`
pub record TreeEntries : Type 0 where
  pub first : ℕ
  pub entries : List Entry

-- the facts of the entries, in order
abbrev pub facts_in : List Entry → List (Fact ℕ)
facts_in [] = []
facts_in (Grounded f by ∷ es) = f ∷ facts_in es
facts_in (Mark c ∷ es) = facts_in es

-- the entries without what their facts rest on
abbrev pub item_of : Entry → Item
item_of (Grounded f by) = Says f
item_of (Mark c) = Marks c

-- the items of some entries, in order
abbrev pub items_of : List Entry → List Item
items_of es = map item_of es

-- the facts, each of which rests on the same
abbrev pub grounded : By → List (Fact ℕ) → List Entry
grounded by fs = map (λ f. Grounded f by) fs

-- the entries with those of new nodes behind them, as many as `count`
abbrev pub with_fresh : TreeEntries → ℕ → ℕ → ℕ → ℕ → By → TreeEntries
with_fresh t x s e count by = record t {
  entries = t.entries ++ grounded by (fresh_facts x s e (node_count_from t.first (facts_in t.entries)) count);
}

-- at this place stands a fact that rests on `by`
pub record RestsOn (es : List Entry) (place : ℕ) (by : By) : Type 0 where
  pub fact : Fact ℕ
  pub stands : slice_get es place ≡ Some (Grounded fact by)

-- at this place stands a mark
pub record IsMarkAt (es : List Entry) (place : ℕ) : Type 0 where
  pub choice : Choice
  pub stands : slice_get es place ≡ Some (Mark choice)

-- ---- places

-- whether the entry is a fact
abbrev pub is_fact : Entry → Bool
is_fact (Grounded f by) = true
is_fact (Mark c) = false

-- whether the entry says that two nodes are one
abbrev pub is_same : Entry → Bool
is_same (Grounded (Same y z) by) = true
is_same (Grounded (Has y c) by) = false
is_same (Grounded (Edge r y z) by) = false
is_same (Grounded (Apart y z) by) = false
is_same (Mark c) = false

-- the places of the entries that pass a test, where the first has this place
abbrev pub places : (Entry → Bool) → ℕ → List Entry → List ℕ
places p n [] = []
places p n (e ∷ es) = if p e then n ∷ places p (n + 1) es else places p (n + 1) es
