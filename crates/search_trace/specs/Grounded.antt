-- Facts whose nodes are known by what rests on the facts' own marks.
use Rattle.std.specs.Prelude.{◌≡◌, ℕ, ◌==◌, Bool, true, List, [], ◌∷◌}
use Rattle.std.specs.List.{list_any, list_all}
use Rattle.refutation_tree.specs.NumberSets.{NumberSet}
use Rattle.calculus_specs.specs.declared.facts.Fact.{Fact}
use Rattle.calculus_specs.specs.declared.facts.Fact.TheVariants.{Has, Edge, Apart, Same}
use Rattle.search_trace.specs.Noted.{within}
use Rattle.search_trace.specs.Trail.{MarkedFact, nodes_of}

-- the nodes of a fact
abbrev pub named : Fact ℕ → List ℕ
named (Has x c) = x ∷ []
named (Edge r x y) = x ∷ y ∷ []
named (Apart x y) = x ∷ y ∷ []
named (Same x y) = x ∷ y ∷ []

-- whether the node is known by facts that rest on marks in u
abbrev pub is_known_within : ℕ → NumberSet → List MarkedFact → ℕ → Bool
is_known_within first u ms x = list_any (λ y. y == x) (within u (nodes_of first ms))

-- whether the nodes of a fact with these marks are
abbrev pub is_grounded : ℕ → List MarkedFact → MarkedFact → Bool
is_grounded first ms m = list_all (is_known_within first m.marks ms) (named m.item)

-- the nodes of each fact are known by what rests on its own marks
abbrev pub AreGrounded : ℕ → List MarkedFact → Type 0
AreGrounded first ms = list_all (is_grounded first ms) ms ≡ true
