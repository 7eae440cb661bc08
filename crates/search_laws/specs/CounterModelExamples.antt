-- Worked interpretations.
use Rattle.std.specs.Prelude.{◌≡◌, ℕ, true, false, ◌==◌, ◌&&◌, ◌||◌, Bool, List, [], ◌∷◌, None, refl}
use Rattle.shq_terms.specs.Concept.{name, at_least}
use Rattle.calculus_specs.specs.Shape.{Shape}
use Rattle.calculus_specs.specs.Shape.Shape.{top, name as name_shape, at_least as least_shape}
use Rattle.shq_terms.specs.declared.axioms.Axiom.TheVariants.{Member, Pair, SameAll, Different}
use Rattle.ontology_limits.specs.Truth.{Interpretation, holds, meets}
use Rattle.calculus_specs.specs.declared.facts.Fact.{Fact}
use Rattle.calculus_specs.specs.declared.facts.Fact.TheVariants.{Has, Edge, Apart, Same}
use Rattle.tableau_specs.specs.Steps.{SearchContext}
use Rattle.search_laws.specs.Elements.{elements, original}
use Rattle.search_laws.specs.Computed.{built}

-- ---- two blocked nodes under one

-- Each element of class 10 has two successors by role 5 in class 10. The table's numbers are: 0 top, 1 class 10, 2 'at
-- least 2 of role 5 in class 10'. Both successors of node 0 are blocked by it. They stay two elements, each of which
-- leads to both.
abbrev table : List Shape
table = top ∷ name_shape 10 ∷ least_shape 2 5 1 ∷ []

abbrev context : SearchContext
context = record {
  theory = record { parts = []; below = λ r s. r == s; is_transitive = λ r. false };
  table = table;
  rows = [];
  first = 1;
  fact_of = λ a p. None;
}

abbrev facts : List (Fact ℕ)
facts = Has 0 1 ∷ Has 0 2 ∷ Edge 5 0 1 ∷ Has 1 1 ∷ Edge 5 0 2 ∷ Has 2 1 ∷ Apart 1 2 ∷ Has 1 2 ∷ Has 2 2 ∷ []

abbrev model : Interpretation
model = built context facts 0

pub all_are_elements : elements 1 facts ≡ 0 ∷ 1 ∷ 2 ∷ []
all_are_elements = refl

pub one_is_like_zero : original 1 facts 1 ≡ 0
one_is_like_zero = refl

pub two_is_like_zero : original 1 facts 2 ≡ 0
two_is_like_zero = refl

pub one_leads_to_two : model.in_role 5 1 2 ≡ true
one_leads_to_two = refl

pub none_leads_to_zero : model.in_role 5 1 0 ≡ false
none_leads_to_zero = refl

pub each_has_two : holds model (at_least 2 5 (name 10)) 2 ≡ true
each_has_two = refl

pub none_has_three : holds model (at_least 3 5 (name 10)) 2 ≡ false
none_has_three = refl

-- ---- chains

-- An edge of role 7 leads from node 0 to node 1 and another on to node 2, which has the label of node 0 and is blocked
-- by it.
abbrev chain : List (Fact ℕ)
chain = Has 0 1 ∷ Edge 7 0 1 ∷ Has 1 2 ∷ Edge 7 1 2 ∷ Has 2 1 ∷ []

-- role 7 is below role 5, and transitive or not
abbrev below : ℕ → ℕ → Bool
below r s = r == s || (r == 7 && s == 5)

abbrev chained : Bool → Interpretation
chained transitive =
    built (record {
      theory = record { parts = []; below = below; is_transitive = λ r. transitive && r == 7 };
      table = table;
      rows = [];
      first = 1;
      fact_of = λ a p. None;
    })
    chain 8

-- a role has the chains of a transitive one below it
pub chain_is_passed_on : (chained true).in_role 5 0 2 ≡ true
chain_is_passed_on = refl

-- a chain goes on at a blocked node, which leads where its blocker does
pub chain_goes_on : (chained true).in_role 7 1 1 ≡ true
chain_goes_on = refl

pub none_leads_back : (chained true).in_role 7 1 0 ≡ false
none_leads_back = refl

-- other roles have edges alone
pub edges_alone : (chained false).in_role 5 0 2 ≡ false
edges_alone = refl

-- ---- individuals

-- Four first nodes: three for individuals, and one for an element without a name. An edge of role 5 leads from
-- individual 0 to individual 1, and individual 2 is the same as individual 1. Individual 0 is in class 10 and has a
-- successor without a name that is in it too, and so is blocked by it.
abbrev named : List (Fact ℕ)
named = Has 3 0 ∷ Has 0 1 ∷ Edge 5 0 1 ∷ Same 1 2 ∷ Apart 0 1 ∷ Edge 5 0 4 ∷ Has 4 1 ∷ []

abbrev of_individuals : Interpretation
of_individuals =
    built (record {
      theory = record { parts = []; below = λ r s. r == s; is_transitive = λ r. false };
      table = table;
      rows = [];
      first = 4;
      fact_of = λ a p. None;
    })
    named 0

-- what is one with another has no element of its own
pub representatives_are_elements : elements 4 named ≡ 0 ∷ 1 ∷ 3 ∷ 4 ∷ []
representatives_are_elements = refl

pub successor_is_like_individual : original 4 named 4 ≡ 0
successor_is_like_individual = refl

-- no first node is blocked, also not one that has less than another
pub first_nodes_are_like_themselves : original 4 named 1 ≡ 1
first_nodes_are_like_themselves = refl

pub two_are_one_element : of_individuals.individual 2 ≡ 1
two_are_one_element = refl

-- node 3 is of no individual: the number of an individual without a node is 0
pub last_first_node_is_of_none : of_individuals.individual 3 ≡ 0
last_first_node_is_of_none = refl

pub individual_is_in_class : meets of_individuals (Member (name 10) 0) ≡ true
individual_is_in_class = refl

pub edge_is_a_pair : meets of_individuals (Pair 5 0 2) ≡ true
edge_is_a_pair = refl

-- the successor leads where the individual does, and not to other individuals
pub blocked_leads_to_individual : of_individuals.in_role 5 3 1 ≡ true
blocked_leads_to_individual = refl

pub none_leads_to_first : of_individuals.in_role 5 3 0 ≡ false
none_leads_to_first = refl

pub same_are_same : meets of_individuals (SameAll (1 ∷ 2 ∷ [])) ≡ true
same_are_same = refl

pub different_are_different : meets of_individuals (Different (0 ∷ 2 ∷ [])) ≡ true
different_are_different = refl
