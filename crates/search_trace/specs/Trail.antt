-- How a branch of the trace stands to the facts of a search's trail, each with the marks that it rests on.
use Rattle.std.specs.Prelude.{◌≡◌, ℕ, ◌<◌, ◌==◌, nat_lt, if◌then◌else◌, Bool, true, List, [], ◌∷◌, ◌++◌, map, Some}
use Rattle.std.specs.List.{list_any, list_all, range_with_len}
use Rattle.std.specs.FinSet as sets
use Rattle.calculus_specs.specs.Concept.{Concept}
use Rattle.refutation_tree.specs.NumberSets.{NumberSet}
use Rattle.calculus_specs.specs.Shape.{Shape}
use Rattle.calculus_specs.specs.Tree.{tree_of}
use Rattle.calculus_specs.specs.declared.facts.Fact.{Fact}
use Rattle.calculus_specs.specs.declared.facts.Fact.TheVariants.{Has, Edge, Apart, Same}
use Rattle.calculus_specs.specs.State.{node_count_from, fresh_facts}
use Rattle.calculus_specs.specs.Reading.{read_fact, read_facts}
use Rattle.calculus_specs.specs.Rules.{Question, Known, knows}
use Rattle.tableau_specs.specs.Lines.{concept_in}
use Rattle.search_trace.specs.Premises.{Added, more_facts, more_nodes, Rule, rule_of, holds}
use Rattle.search_trace.specs.Noted.{Marked, marked, is_within, within, items, Noted, known, NotedLine}
use Rattle.search_trace.specs.Among.{IsAmong}

-- a fact of the trail, with its marks
abbrev pub MarkedFact : Type 0
MarkedFact = Marked (Fact ℕ)

-- a fact with its marks, its number of a concept read as the tree
abbrev pub read_marked : List Shape → MarkedFact → Marked (Fact Concept)
read_marked table m = marked m.marks (read_fact (tree_of table) m.item)

-- the end of an edge, with the marks of the edge, unless it is one of the first nodes, which are there before
abbrev pub end_of : ℕ → NumberSet → Fact ℕ → List (Marked ℕ)
end_of first u (Edge r x y) = if nat_lt y first then [] else marked u y ∷ []
end_of first u (Has x c) = []
end_of first u (Apart x y) = []
end_of first u (Same x y) = []

-- the ends of new edges among the facts, each with its marks
abbrev pub ends_of : ℕ → List MarkedFact → List (Marked ℕ)
ends_of first [] = []
ends_of first (m ∷ ms) = end_of first m.marks m.item ++ ends_of first ms

-- the first nodes, which rest on no mark, and the other ends of the edges
abbrev pub nodes_of : ℕ → List MarkedFact → List (Marked ℕ)
nodes_of first ms = map (marked sets.empty) (range_with_len 0 first) ++ ends_of first ms

-- what the facts make known that rest on marks of a set alone
abbrev pub trail_within : ℕ → List Shape → NumberSet → List MarkedFact → Known
trail_within first table u ms =
    record { nodes = within u (nodes_of first ms); facts = read_facts (tree_of table) (within u ms) }

-- the branch has all that the trail has, with the same marks, and no node more; the nodes of the trail are all below
-- their count
pub record Covers (first : ℕ) (table : List Shape) (ms : List MarkedFact) (k : Noted) : Type 0 where
  pub nodes : IsAmong (nodes_of first ms) k.nodes
  pub facts : IsAmong (map (read_marked table) ms) k.facts
  pub no_more : (x : ℕ) → knows (known k) x ≡ true → x < node_count_from first (items ms)
  pub no_less : (x : ℕ) → x < node_count_from first (items ms)
      → list_any (λ y. y == x) (items (nodes_of first ms)) ≡ true

-- whether the nodes that are added are the next ones
abbrev pub is_next : ℕ → List MarkedFact → Added → Bool
is_next first ms (more_facts fs) = true
is_next first ms (more_nodes x s e y n) = y == node_count_from first (items ms)

-- the rule of a line has its premises by facts that rest on the line's marks alone, and the next nodes are its new ones
pub record RuleHolds (q : Question) (table : List Shape) (ms : List MarkedFact) (l : NotedLine) (r : Rule) :
    Type 0 where
  pub is_rule : rule_of q (concept_in table) l.line ≡ Some r
  pub premises : list_all (holds q.theory (trail_within q.first table l.marks ms)) r.premises ≡ true
  pub are_next : list_all (is_next q.first ms) r.children ≡ true

-- whether the fact makes no node: only an edge makes one, and none that ends at one of the first nodes
abbrev pub makes_no_node : ℕ → Fact ℕ → Bool
makes_no_node first (Edge r x y) = nat_lt y first
makes_no_node first (Has x c) = true
makes_no_node first (Apart x y) = true
makes_no_node first (Same x y) = true

-- what a search puts on its trail for a child of a line: some of the facts that it adds, or the facts of its new nodes
pub data Puts (first : ℕ) (table : List Shape) : Added → List (Fact ℕ) → Type 0 where
  some_facts : (fs : List (Fact Concept)) (new : List (Fact ℕ)) → list_all (makes_no_node first) new ≡ true
      → IsAmong (read_facts (tree_of table) new) fs → Puts first table (more_facts fs) new
  all_nodes : (x s c y n : ℕ) → Puts first table (more_nodes x s (tree_of table c) y n) (fresh_facts x s c y n)

-- ---- which marks a rule rests on

-- each node and each fact rests on marks of a set
abbrev pub AllWithin : NumberSet → List MarkedFact → Type 0
AllWithin u ms = list_all (is_within u) ms ≡ true
