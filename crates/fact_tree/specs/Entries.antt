-- How facts are taken back. Each fact changes the lists of one node, which it makes longer at their ends, perhaps makes
-- a node, and perhaps links the members of a representative. So its entry keeps the lengths before it: members that are
-- cut off are linked to the first of them again.
use Rattle.std.specs.Prelude.{◌≡◌, ℕ, ◌+◌, ◌<◌, ◌≤◌, ◌==◌, ◌&&◌, nat_lt, Bool, true, List, length, take, drop, map}
use Rattle.std.specs.Prelude.{get_or, slice_set}
use Rattle.std.specs.List.{list_any}
use Rattle.calculus_specs.specs.declared.facts.Fact.{Fact}
use Rattle.calculus_specs.specs.declared.facts.Fact.TheVariants.{Has, Edge, Apart, Same}
use Rattle.calculus_specs.specs.State.{node_count_from}
use Rattle.fact_tree.specs.declared.store.Lengths.{Lengths}
use Rattle.fact_tree.specs.declared.tree.Entry.{Entry}
use Rattle.fact_tree.specs.Kept.{Lists, Kept, kept_of, lists_at, bare, cut_lists, set_each, Begins}

-- the members are linked to the first of them
abbrev pub relinked : List ℕ → List ℕ → List ℕ
relinked ms links = set_each ms (get_or ms 0 0) links

-- what is kept after a fact is taken back, by the lengths from before it
abbrev pub undone : Lengths → Kept → Kept
undone u k = record {
  links = relinked (drop u.members (get_or (take u.nodes k.nodes) u.node bare).members) (take u.nodes k.links);
  nodes = slice_set (take u.nodes k.nodes) u.node
      (cut_lists u.members u.concepts u.edges u.aparts (get_or (take u.nodes k.nodes) u.node bare));
}

-- the lengths of a state, where the lists of the node `node` will be longer
abbrev pub lengths_of : ℕ → Kept → Lengths
lengths_of node k = record {
  nodes = length k.nodes;
  node = node;
  members = length (lists_at k node).members;
  concepts = length (lists_at k node).concepts;
  edges = length (lists_at k node).edges;
  aparts = length (lists_at k node).aparts;
}

-- the number is in the list
abbrev pub is_in : ℕ → List ℕ → Bool
is_in x xs = list_any (λ v. v == x) xs

-- the nodes of a fact: the one whose lists it changes, and the one that it may link, a representative
pub record IsPlace (at high : ℕ) (k : Kept) : Type 0 where
  pub node_exists : at < length k.nodes
  pub high_exists : high < length k.nodes
  pub equal : length k.links ≡ length k.nodes
  pub head : get_or (lists_at k high).members 0 0 ≡ high
  pub own : (x : ℕ) → is_in x (lists_at k high).members ≡ true → get_or k.links x 0 ≡ high

-- the lists of the node x are longer, and no others are different
pub record AreLonger (x : ℕ) (earlier later : List Lists) : Type 0 where
  pub nodes : later ≡ slice_set earlier x (get_or later x bare)
  pub begins : Begins (get_or earlier x bare) (get_or later x bare)
  pub members : (get_or later x bare).members ≡ (get_or earlier x bare).members

-- the later one has the same links, and at the node perhaps longer lists
pub record IsLonger (x : ℕ) (earlier later : Kept) : Type 0 where
  pub links : later.links ≡ earlier.links
  pub lists : AreLonger x earlier.nodes later.nodes

-- the later state begins with the earlier one
pub record HasMore (earlier later : Kept) : Type 0 where
  pub links : take (length earlier.links) later.links ≡ earlier.links
  pub nodes : take (length earlier.nodes) later.nodes ≡ earlier.nodes

-- the lengths lead from the later state to the earlier one
pub record Undoes (u : Lengths) (later earlier : Kept) : Type 0 where
  pub back : undone u later ≡ earlier
  pub node : u.node < u.nodes
  pub nodes : u.nodes ≤ length later.nodes
  pub links : u.nodes ≤ length later.links

-- the facts of some entries, in order
abbrev pub facts_of : List Entry → List (Fact ℕ)
facts_of es = map (λ e. e.fact) es

-- each entry leads back to what was kept before it
pub record AreEntries (first : ℕ) (es : List Entry) : Type 0 where
  pub each : (p : ℕ) (d : Entry) → p < length es
      → Undoes (get_or es p d).lengths (kept_of first (facts_of (take (p + 1) es)))
      (kept_of first (facts_of (take p es)))

-- ---- links

-- links lead to representatives by m
pub record Leads (m : ℕ → ℕ) (links : List ℕ) : Type 0 where
  pub each : (x d : ℕ) → x < length links → get_or links x d ≡ m x

-- ---- facts that speak of nodes

-- the fact's nodes are below n, or it is an edge to the node n
abbrev pub IsFit : ℕ → Fact ℕ → Type 0
IsFit n (Has y c) = y < n
IsFit n (Edge r y z) = (y < n) × (z ≤ n)
IsFit n (Apart y z) = (y < n) × (z < n)
IsFit n (Same y z) = (y < n) × (z < n)

-- where the fact joins, the first of its nodes is not above the second
abbrev pub AreOrdered : ℕ → ℕ → Fact ℕ → Type 0
AreOrdered at high (Same y z) = at ≤ high
AreOrdered at high (Has y c) = Unit {0}
AreOrdered at high (Edge r y z) = Unit {0}
AreOrdered at high (Apart y z) = Unit {0}

-- each fact speaks of nodes that stand before it, or makes the next one
pub record AreFit (first : ℕ) (fs : List (Fact ℕ)) : Type 0 where
  pub each : (p : ℕ) (d : Fact ℕ) → p < length fs → IsFit (node_count_from first (take p fs)) (get_or fs p d)

-- ---- links and nodes together

-- the links lead to the representatives by m, which are not above their nodes
pub record IsLinked (m : ℕ → ℕ) (k : Kept) : Type 0 where
  pub equal : length k.links ≡ length k.nodes
  pub leads : Leads m k.links
  pub below : (x : ℕ) → m x ≤ x
  pub twice : (x : ℕ) → m (m x) ≡ m x
  pub beyond : (x : ℕ) → length k.nodes ≤ x → m x ≡ x
  pub members : (r x : ℕ) → r < length k.nodes → m r ≡ r
      → is_in x (lists_at k r).members ≡ (nat_lt x (length k.nodes) && m x == r)
  pub heads : (r d : ℕ) → r < length k.nodes → get_or (lists_at k r).members 0 d ≡ r
