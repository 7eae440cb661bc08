-- What a fact of a trail's state rests on.
use Rattle.std.specs.Prelude.{◌≡◌, ℕ, ◌==◌, ◌&&◌, ◌||◌, not, Bool, true, false, List, [], ◌∷◌, get_or, if◌then◌else◌}
use Rattle.std.specs.List.{list_any}
use Rattle.std.specs.FinSet as set
use Rattle.axiom_sets.specs.NumberSets.{NumberSet}
use Rattle.calculus_specs.specs.declared.facts.Fact.{Fact}
use Rattle.calculus_specs.specs.declared.facts.Fact.TheVariants.{Has, Edge, Apart, Same}
use Rattle.completion_tree.specs.declared.tree.Entry.{Entry}
use Rattle.completion_tree.specs.declared.tree.Entry.TheVariants.{Fact as Grounded, Mark}
use Rattle.completion_tree.specs.Trail.{facts_in}

-- the facts that rest on these marks alone
abbrev pub facts_within : NumberSet → List Entry → List (Fact ℕ)
facts_within u [] = []
facts_within u (Grounded f by ∷ es) = if set.is_subset by.marks u then f ∷ facts_within u es else facts_within u es
facts_within u (Mark c ∷ es) = facts_within u es

-- whether it is asked for a concept that each node has
abbrev pub is_top : Fact ℕ → Bool
is_top (Has x c) = c == 0
is_top (Edge r x y) = false
is_top (Apart x y) = false
is_top (Same x y) = false

-- whether it is asked whether two nodes are one
abbrev pub is_joining : Fact ℕ → Bool
is_joining (Same x y) = true
is_joining (Has x c) = false
is_joining (Edge r x y) = false
is_joining (Apart x y) = false

-- the nodes that are asked about
abbrev pub first_node : Fact ℕ → ℕ
first_node (Has x c) = x
first_node (Edge r x y) = x
first_node (Apart x y) = x
first_node (Same x y) = x

-- the second node of a fact, or its only one
abbrev pub second_node : Fact ℕ → ℕ
second_node (Has x c) = x
second_node (Edge r x y) = y
second_node (Apart x y) = y
second_node (Same x y) = y

-- whether the fact joins two nodes, with one of these representatives
abbrev pub is_join : (ℕ → ℕ) → ℕ → ℕ → Fact ℕ → Bool
is_join m a b (Same v w) = (m v == a || m v == b) && not (v == w)
is_join m a b (Has y c) = false
is_join m a b (Edge r y z) = false
is_join m a b (Apart y z) = false

-- the facts that pass the test rest on these marks alone
abbrev pub AreWithin : (Fact ℕ → Bool) → NumberSet → List Entry → Type 0
AreWithin p u [] = Unit {0}
AreWithin p u (Grounded f by ∷ es) = (p f ≡ true → set.is_subset by.marks u ≡ true) × AreWithin p u es
AreWithin p u (Mark c ∷ es) = AreWithin p u es

-- where some fact passes the test, some does that rests on these marks alone
abbrev pub SomeWithin : (Fact ℕ → Bool) → NumberSet → List Entry → Type 0
SomeWithin p u es = list_any p (facts_in es) ≡ true → list_any p (facts_within u es) ≡ true

-- whether the entry is a fact that passes the test
abbrev pub passes : (Fact ℕ → Bool) → Entry → Bool
passes p (Grounded f by) = p f
passes p (Mark c) = false

-- the marks that an entry rests on; a mark rests on none
abbrev pub marks_at : Entry → NumberSet
marks_at (Grounded f by) = by.marks
marks_at (Mark c) = set.empty

-- where the fact at a place among the facts passes a test, some fact does that rests on these marks alone
abbrev pub IsGroundedBy : List Entry → ℕ → NumberSet → Type 0
IsGroundedBy es i u = (q : Fact ℕ → Bool) → q (get_or (facts_in es) i (Has 0 0)) ≡ true
    → list_any q (facts_within u es) ≡ true
