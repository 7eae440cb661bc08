-- What a list of facts says of its nodes. Facts are read through representatives.
use Rattle.std.specs.Prelude.{◌≡◌, ◌<◌, ℕ, zero, suc, ◌+◌, ◌==◌, nat_lt, ◌&&◌, ◌||◌, max, Bool, true, false, List, []}
use Rattle.std.specs.Prelude.{◌∷◌, ◌++◌, Option, Some, None, if◌then◌else◌, filter}
use Rattle.std.specs.List.{list_any, list_all, range_with_len}
use Rattle.shq_base.specs.Concept.{Concept}
use Rattle.calculus_specs.specs.Same.{is_same}
use Rattle.calculus_specs.specs.Normal.{is_top}
use Rattle.calculus_specs.specs.declared.facts.Fact.{Fact}
use Rattle.calculus_specs.specs.declared.facts.Fact.TheVariants.{Has, Edge, Apart, Same}
use Rattle.calculus_specs.specs.Joins.{rep}

-- ---- nodes

-- the number of nodes, where they are the first ones, of which there are `first`, and the ends of the edges: one more
-- than the greatest of these
abbrev pub node_count_from : {C : Type 0} → ℕ → List (Fact C) → ℕ
node_count_from first [] = first
node_count_from first (Edge r y z ∷ fs) = max (z + 1) (node_count_from first fs)
node_count_from first (Has y c ∷ fs) = node_count_from first fs
node_count_from first (Apart y z ∷ fs) = node_count_from first fs
node_count_from first (Same y z ∷ fs) = node_count_from first fs

-- where the first edge into a node begins
abbrev pub first_origin : {C : Type 0} → List (Fact C) → ℕ → Option ℕ
first_origin [] x = None
first_origin (Edge r y z ∷ fs) x = if z == x then Some y else first_origin fs x
first_origin (Has y c ∷ fs) x = first_origin fs x
first_origin (Apart y z ∷ fs) x = first_origin fs x
first_origin (Same y z ∷ fs) x = first_origin fs x

-- the parent of a node, which first nodes do not have
abbrev pub parent_from : {C : Type 0} → ℕ → List (Fact C) → ℕ → Option ℕ
parent_from first fs x = if nat_lt x first then None else first_origin fs x

-- ---- concepts

-- whether the fact says that a node with the representative `at` has a concept of a kind
abbrev pub gives_concept : {C : Type 0} → (C → Bool) → (ℕ → ℕ) → ℕ → Fact C → Bool
gives_concept kind m at (Has y c) = m y == at && kind c
gives_concept kind m at (Edge r y z) = false
gives_concept kind m at (Apart y z) = false
gives_concept kind m at (Same y z) = false

-- whether the facts give a node a concept of a kind
abbrev pub is_given : {C : Type 0} → (C → Bool) → List (Fact C) → ℕ → Bool
is_given kind fs x = list_any (gives_concept kind (rep fs) (rep fs x)) fs

-- whether a node has a concept that is a number of a table: each node has number 0, which is top
abbrev pub has : List (Fact ℕ) → ℕ → ℕ → Bool
has fs x c = c == 0 || is_given (λ d. d == c) fs x

-- whether a node has a concept that is a tree: each node has top
abbrev pub has_tree : List (Fact Concept) → ℕ → Concept → Bool
has_tree fs x c = is_top c || is_given (λ d. is_same d c) fs x

-- the concepts that facts give to nodes with the representative `at`, in their order
abbrev pub concepts_at : {C : Type 0} → (ℕ → ℕ) → ℕ → List (Fact C) → List C
concepts_at m at [] = []
concepts_at m at (Has y c ∷ fs) = if m y == at then c ∷ concepts_at m at fs else concepts_at m at fs
concepts_at m at (Edge r y z ∷ fs) = concepts_at m at fs
concepts_at m at (Apart y z ∷ fs) = concepts_at m at fs
concepts_at m at (Same y z ∷ fs) = concepts_at m at fs

-- the label of a node: top, and the concepts of all nodes that are one with it
abbrev pub label : List (Fact ℕ) → ℕ → List ℕ
label fs x = 0 ∷ concepts_at (rep fs) (rep fs x) fs

-- whether the label of x is part of the label of z
abbrev pub is_label_part : List (Fact ℕ) → ℕ → ℕ → Bool
is_label_part fs x z = list_all (has fs z) (label fs x)

-- ---- edges

-- whether the fact is an edge by a role of a kind between nodes with these representatives
abbrev pub gives_edge : {C : Type 0} → (ℕ → Bool) → (ℕ → ℕ) → ℕ → ℕ → Fact C → Bool
gives_edge roles m from to (Edge r y z) = roles r && m y == from && m z == to
gives_edge roles m from to (Has y c) = false
gives_edge roles m from to (Apart y z) = false
gives_edge roles m from to (Same y z) = false

-- whether an edge by a role of a kind leads from x to y
abbrev pub has_edge : {C : Type 0} → List (Fact C) → (ℕ → Bool) → ℕ → ℕ → Bool
has_edge fs roles x y = list_any (gives_edge roles (rep fs) (rep fs x) (rep fs y)) fs

-- whether y is a successor of x: a representative at the end of such an edge
abbrev pub is_successor : {C : Type 0} → List (Fact C) → (ℕ → Bool) → ℕ → ℕ → Bool
is_successor fs roles x y = rep fs y == y && has_edge fs roles x y

-- the successors of x by roles of a kind, ascending
abbrev pub successors_from : {C : Type 0} → ℕ → List (Fact C) → (ℕ → Bool) → ℕ → List ℕ
successors_from first fs roles x = filter (is_successor fs roles x) (range_with_len 0 (node_count_from first fs))

-- ---- different nodes

-- whether the fact keeps nodes with these representatives apart
abbrev pub gives_apart : {C : Type 0} → (ℕ → ℕ) → ℕ → ℕ → Fact C → Bool
gives_apart m a b (Apart y z) = (m y == a && m z == b) || (m y == b && m z == a)
gives_apart m a b (Has y c) = false
gives_apart m a b (Edge r y z) = false
gives_apart m a b (Same y z) = false

-- whether two nodes are apart
abbrev pub are_apart : {C : Type 0} → List (Fact C) → ℕ → ℕ → Bool
are_apart fs x y = list_any (gives_apart (rep fs) (rep fs x) (rep fs y)) fs

-- whether nodes at any two places of a list are apart
abbrev pub all_apart : {C : Type 0} → List (Fact C) → List ℕ → Bool
all_apart fs [] = true
all_apart fs (y ∷ ys) = list_all (are_apart fs y) ys && all_apart fs ys

-- ---- the facts of new nodes

-- the edges to n new nodes from `first` on, each with its concept
abbrev pub new_nodes : {C : Type 0} → ℕ → ℕ → C → ℕ → ℕ → List (Fact C)
new_nodes x s e first zero = []
new_nodes x s e first (suc n) = Edge s x first ∷ Has first e ∷ new_nodes x s e (first + 1) n

-- y is apart from each of the n nodes from z on
abbrev pub apart_from : {C : Type 0} → ℕ → ℕ → ℕ → List (Fact C)
apart_from y z zero = []
apart_from y z (suc n) = Apart y z ∷ apart_from y (z + 1) n

-- the n nodes from `first` on are pairwise apart, by the smaller and then by the greater
abbrev pub pairwise_apart : {C : Type 0} → ℕ → ℕ → List (Fact C)
pairwise_apart first zero = []
pairwise_apart first (suc n) = apart_from first (first + 1) n ++ pairwise_apart (first + 1) n

-- the facts that make n new nodes at the ends of edges of role s from x
abbrev pub fresh_facts : {C : Type 0} → ℕ → ℕ → C → ℕ → ℕ → List (Fact C)
fresh_facts x s e first n = new_nodes x s e first n ++ pairwise_apart first n

-- ---- facts in a state

-- whether what the fact says is so in the state of the facts: an edge by its very role
abbrev pub is_so : List (Fact ℕ) → Fact ℕ → Bool
is_so fs (Has x c) = has fs x c
is_so fs (Edge r x y) = has_edge fs (λ s. s == r) x y
is_so fs (Apart x y) = are_apart fs x y
is_so fs (Same x y) = rep fs x == rep fs y

-- whether the fact speaks of the first n nodes alone
abbrev pub speaks_below : {C : Type 0} → ℕ → Fact C → Bool
speaks_below n (Has x c) = nat_lt x n
speaks_below n (Edge r x y) = nat_lt x n && nat_lt y n
speaks_below n (Apart y z) = nat_lt y n && nat_lt z n
speaks_below n (Same y z) = nat_lt y n && nat_lt z n

-- whether the facts speak of their own nodes alone
abbrev pub speak_of_nodes : {C : Type 0} → ℕ → List (Fact C) → Bool
speak_of_nodes first fs = list_all (speaks_below (node_count_from first fs)) fs

-- each parent is less than its node
abbrev pub HaveParentsBefore : ℕ → List (Fact ℕ) → Type 0
HaveParentsBefore first fs = (x p : ℕ) → parent_from first fs x ≡ Some p → p < x
