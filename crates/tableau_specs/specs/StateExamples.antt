-- Worked examples. Role 7 is below itself alone. The table's numbers are: 0 top, 1 and 2 names, 3 the complement of
-- name 1, 4 'at most 2 of role 7 with concept 1'.
use Rattle.std.specs.Prelude.{◌≡◌, ℕ, Bool, ◌==◌, List, [], ◌∷◌, ◌++◌, length, take, refl, Some, None}
use Rattle.std.proofs.Common.{lit<}
use Rattle.calculus_specs.specs.Shape.{Shape}
use Rattle.calculus_specs.specs.Shape.Shape.{top, name, not_name, at_most}
use Rattle.calculus_specs.specs.declared.facts.Fact.{Fact}
use Rattle.calculus_specs.specs.declared.facts.Fact.TheVariants.{Has, Edge, Apart, Same}
use Rattle.calculus_specs.specs.Joins.{rep}
use Rattle.calculus_specs.specs.State.{node_count_from, parent_from, successors_from, fresh_facts}
use Rattle.tableau_specs.specs.declared.Block.TheVariants.{Clear, By, Under}
use Rattle.tableau_specs.specs.declared.Branch.TheVariants.{Pair}
use Rattle.tableau_specs.specs.declared.Item.{Item}
use Rattle.tableau_specs.specs.declared.Item.TheVariants.{Fact as Says, Mark}
use Rattle.tableau_specs.specs.Items.{facts_of, says}
use Rattle.tableau_specs.specs.Blocked.{block_of}
use Rattle.tableau_specs.specs.Clash.{filled_successors, IsPlainClash}
use Rattle.tableau_specs.specs.Clash.IsPlainClash.{plain_most, plain_differ}

abbrev table : List Shape
table = top ∷ name 10 ∷ name 11 ∷ not_name 10 ∷ at_most 2 7 1 ∷ []

abbrev same_role : ℕ → ℕ → Bool
same_role r s = r == s

-- ---- a trail with a mark

-- nodes 1 to 3 are made below node 0 by role 7 with concept 1, then a mark stands, and then node 4 is made in the same
-- way
abbrev marked : List Item
marked =
    says (fresh_facts 0 7 1 1 3)
    ++ Mark (record { line = 5; branch = Pair 4 1; alternative = 1 }) ∷ says (fresh_facts 0 7 1 4 1)

pub nine_items_before_the_mark : length (says (fresh_facts 0 7 1 1 3)) ≡ 9
nine_items_before_the_mark = refl

pub marks_are_no_facts : facts_of marked
    ≡ Edge 7 0 1 ∷ Has 1 1 ∷ Edge 7 0 2 ∷ Has 2 1 ∷ Edge 7 0 3 ∷ Has 3 1 ∷ Apart 1 2 ∷ Apart 1 3 ∷ Apart 2 3
    ∷ Edge 7 0 4 ∷ Has 4 1 ∷ []
marks_are_no_facts = refl

pub five_nodes : node_count_from 1 (facts_of marked) ≡ 5
five_nodes = refl

pub four_successors : successors_from 1 (facts_of marked) (λ r. r == 7) 0 ≡ 1 ∷ 2 ∷ 3 ∷ 4 ∷ []
four_successors = refl

-- node 4 joined with node 1
abbrev joined : List Item
joined = marked ++ Says (Same 4 1) ∷ []

pub joined_with_one : rep (facts_of joined) 4 ≡ 1
joined_with_one = refl

pub three_successors : successors_from 1 (facts_of joined) (λ r. r == 7) 0 ≡ 1 ∷ 2 ∷ 3 ∷ []
three_successors = refl

-- back before the mark
pub one_is_alone : rep (facts_of (take 9 joined)) 1 ≡ 1
one_is_alone = refl

pub four_nodes : node_count_from 1 (facts_of (take 9 joined)) ≡ 4
four_nodes = refl

-- ---- blocked nodes

-- node 0 has concept 1; node 1 below it has concept 2; node 2 below node 1 has concept 1; node 3 below node 2 has both
abbrev chain : List (Fact ℕ)
chain = Has 0 1 ∷ Edge 7 0 1 ∷ Has 1 2 ∷ Edge 7 1 2 ∷ Has 2 1 ∷ Edge 7 2 3 ∷ Has 3 1 ∷ Has 3 2 ∷ []

pub root_is_clear : block_of 1 chain 0 ≡ Clear
root_is_clear = refl

pub other_label_is_clear : block_of 1 chain 1 ≡ Clear
other_label_is_clear = refl

pub blocked_by_root : block_of 1 chain 2 ≡ By 0
blocked_by_root = refl

pub below_a_blocked_node : block_of 1 chain 3 ≡ Under
below_a_blocked_node = refl

-- once node 2 has concept 2 as well, no earlier node has its label, and it blocks node 3 in turn
pub no_longer_blocked : block_of 1 (chain ++ Has 2 2 ∷ []) 2 ≡ Clear
no_longer_blocked = refl

pub blocked_by_its_parent : block_of 1 (chain ++ Has 2 2 ∷ []) 3 ≡ By 2
blocked_by_its_parent = refl

-- the least of two nodes that have the label, also where it is no ancestor
abbrev beside : List (Fact ℕ)
beside = Edge 7 0 1 ∷ Has 1 1 ∷ Edge 7 0 2 ∷ Has 2 1 ∷ Has 2 2 ∷ Edge 7 2 3 ∷ Has 3 1 ∷ []

pub blocked_by_the_least : block_of 1 beside 3 ≡ By 1
blocked_by_the_least = refl

-- ---- a clash by counting

-- node 0 may have two successors with concept 1, and has three that are pairwise apart
abbrev crowded : List (Fact ℕ)
crowded = Has 0 4 ∷ fresh_facts 0 7 1 1 3

pub three_fit : filled_successors 1 same_role crowded 0 7 1 ≡ 1 ∷ 2 ∷ 3 ∷ []
three_fit = refl

pub too_many : IsPlainClash 1 same_role table crowded
too_many = plain_most 0 4 2 7 1 (lit< tt) refl refl (lit< tt) refl

-- where two of them are joined there are two left
pub two_fit : filled_successors 1 same_role (crowded ++ Same 2 3 ∷ []) 0 7 1 ≡ 1 ∷ 2 ∷ []
two_fit = refl

-- ---- first nodes

-- nodes 0 to 2 are first ones; node 1 has an edge to node 0 and one to node 3 below it, which has node 4 below it
abbrev individuals : List (Fact ℕ)
individuals = Has 2 1 ∷ Edge 7 1 0 ∷ Edge 7 1 3 ∷ Has 3 1 ∷ Edge 7 3 4 ∷ Has 4 1 ∷ []

pub five_nodes_of_three : node_count_from 3 individuals ≡ 5
five_nodes_of_three = refl

pub three_nodes_at_least : node_count_from {C = ℕ} 3 [] ≡ 3
three_nodes_at_least = refl

pub first_nodes_have_no_parent : parent_from 3 individuals 0 ≡ None
first_nodes_have_no_parent = refl

pub others_have_one : parent_from 3 individuals 3 ≡ Some 1
others_have_one = refl

-- each first node is clear, also where it has the label of an earlier one, and may block
pub first_is_clear : block_of 3 individuals 1 ≡ Clear
first_is_clear = refl

pub blocked_by_a_first_node : block_of 3 individuals 3 ≡ By 2
blocked_by_a_first_node = refl

pub under_it : block_of 3 individuals 4 ≡ Under
under_it = refl

-- a generated node that is joined with a first node is that one
pub joined_with_first : rep (individuals ++ Same 0 3 ∷ []) 3 ≡ 0
joined_with_first = refl

pub its_child_is_not_under : block_of 3 (individuals ++ Same 0 3 ∷ []) 4 ≡ By 0
its_child_is_not_under = refl

-- two first nodes that are apart and one
pub they_differ : IsPlainClash 2 same_role table (Apart 0 1 ∷ Same 1 0 ∷ [])
they_differ = plain_differ 0 1 (lit< tt) (lit< tt) refl refl
