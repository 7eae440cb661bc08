-- Worked examples: nodes 1 to 3 are made below node 0 by role 7 with concept 5, and then node 4 in the same way. In the
-- second list node 4 is joined with node 1 besides.
use Rattle.std.specs.Prelude.{◌≡◌, ℕ, ◌==◌, true, false, List, [], ◌∷◌, ◌++◌, Some, None, refl}
use Rattle.calculus_specs.specs.declared.facts.Fact.{Fact}
use Rattle.calculus_specs.specs.declared.facts.Fact.TheVariants.{Has, Edge, Apart, Same}
use Rattle.calculus_specs.specs.Joins.{rep}
use Rattle.calculus_specs.specs.State.{node_count_from, parent_from, has, label, successors_from, are_apart, all_apart}
use Rattle.calculus_specs.specs.State.{fresh_facts}

abbrev three_below : List (Fact ℕ)
three_below = fresh_facts 0 7 5 1 3

abbrev four_below : List (Fact ℕ)
four_below = three_below ++ fresh_facts 0 7 5 4 1

abbrev joined : List (Fact ℕ)
joined = four_below ++ Has 4 6 ∷ Same 4 1 ∷ []

pub facts_in_order : three_below
    ≡ Edge 7 0 1 ∷ Has 1 5 ∷ Edge 7 0 2 ∷ Has 2 5 ∷ Edge 7 0 3 ∷ Has 3 5 ∷ Apart 1 2 ∷ Apart 1 3 ∷ Apart 2 3 ∷ []
facts_in_order = refl

pub nodes : node_count_from 1 four_below ≡ 5
nodes = refl

pub nodes_after : node_count_from 1 joined ≡ 5
nodes_after = refl

pub alone : rep four_below 4 ≡ 4
alone = refl

pub least_joined : rep joined 4 ≡ 1
least_joined = refl

pub least_stays : rep joined 1 ≡ 1
least_stays = refl

pub parent_of_four : parent_from 1 joined 4 ≡ Some 0
parent_of_four = refl

pub no_parent : parent_from 1 joined 0 ≡ None
no_parent = refl

-- where nodes 0 to 4 are the first ones, node 4 has no parent, and where there are six of them there are six nodes
pub first_of_five : parent_from 5 joined 4 ≡ None
first_of_five = refl

pub six_first : node_count_from 6 joined ≡ 6
six_first = refl

pub four_successors : successors_from 1 four_below (λ r. r == 7) 0 ≡ 1 ∷ 2 ∷ 3 ∷ 4 ∷ []
four_successors = refl

pub three_successors : successors_from 1 joined (λ r. r == 7) 0 ≡ 1 ∷ 2 ∷ 3 ∷ []
three_successors = refl

pub none_by_another_role : successors_from 1 joined (λ r. r == 8) 0 ≡ []
none_by_another_role = refl

-- what one of two joined nodes has, both have; and each has top
pub shared_label : label joined 1 ≡ 0 ∷ 5 ∷ 5 ∷ 6 ∷ []
shared_label = refl

pub has_shared : has joined 1 6 ≡ true
has_shared = refl

pub had_not : has four_below 1 6 ≡ false
had_not = refl

pub has_top : has four_below 3 0 ≡ true
has_top = refl

-- node 4 is apart from node 2 once it is joined with node 1
pub apart_by_joining : are_apart joined 4 2 ≡ true
apart_by_joining = refl

pub not_apart : are_apart four_below 4 2 ≡ false
not_apart = refl

pub three_apart : all_apart joined (1 ∷ 2 ∷ 3 ∷ []) ≡ true
three_apart = refl

pub four_not_apart : all_apart four_below (1 ∷ 2 ∷ 3 ∷ 4 ∷ []) ≡ false
four_not_apart = refl
