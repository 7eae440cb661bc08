-- The laws.
use Rattle.std.proofs.Common.{◌≡◌, ℕ, ◌+◌, ◌<◌, not, ◌&&◌, eqb, true, List, length, refl, ap, ◌∙◌, sym, arith, inl, inr}
use Rattle.std.proofs.lemmas.Bool.{cases_lt, and_parts, and_from}
use Rattle.shq_terms.specs.Concept.{Concept}
use Rattle.shq_terms.specs.Listed.{Listed}
use Rattle.shq_terms.specs.declared.axioms.Query.{Query}
use Rattle.calculus_specs.specs.Shape.{Shape}
use Rattle.calculus_specs.specs.Rows.{Row}
use Rattle.calculus_specs.specs.Rules.{Question}
use Rattle.calculus_specs.specs.Tree.{tree_of}
use Rattle.ontology_limits.specs.Truth.{Interpretation, PlacesIndividuals, holds, is_asked_at, refutes_at}
use Rattle.ontology_limits.proofs.Truth.{normal_truth, negated_truth}
use Rattle.ontology_limits.specs.RoleAxioms.{role_axioms}
use Rattle.ontology_limits.specs.Paths.{role_limit}
use Rattle.ontology_limits.proofs.Limits.{transitive_within}
use Rattle.search_laws.specs.Built.{IsBuilt}
use Rattle.search_laws.specs.Computed.{built}
use Rattle.refutation_truth.specs.Theory.{theory_of, question_in}
use Rattle.calculus_specs.specs.declared.facts.Fact.{Fact}
use Rattle.calculus_specs.specs.Joins.{rep}
use Rattle.calculus_specs.specs.State.{node_count_from, has}
use Rattle.tableau_specs.specs.declared.Item.{Item}
use Rattle.tableau_specs.specs.Items.{facts_of}
use Rattle.tableau_specs.specs.Steps.{SearchContext}
use Rattle.tableau_specs.specs.Reached.{context_of}
use Rattle.tableau_specs.proofs.Reached.{parents_less, not_apart_itself}
use Rattle.tableau_specs.proofs.Under.{clear_has_none_under}
use Rattle.search_laws.specs.Theories.{MeetsRoles, MeetsParts, MeetsFacts}
use Rattle.search_laws.proofs.Start.{start_stays}
use Rattle.search_laws.proofs.TrailLaws.{axioms_met}
use Rattle.search_laws.specs.Elements.{is_element, is_above, node_at, IsNumberOf, number_at, original}
use Rattle.search_laws.specs.CounterModelLaws.{IsSaturatedSearch, ElementsAreFew, FirstNodesAreElements, ElementsDiffer}
use Rattle.search_laws.specs.CounterModelLaws.{SuccessorsAreElements, LabelsArePart, LabelsAreTrue, PartsAreMet}
use Rattle.search_laws.specs.CounterModelLaws.{RolesAreMet, AssertionsAreMet, ComputedIsBuilt, ChainsStayWithin}
use Rattle.search_laws.specs.CounterModelLaws.{LabelsCountSimple, NodeInQuestionRefutes, IsCounterModel}
use Rattle.search_laws.specs.CounterModelLaws.{SaturatedIsCounterModel, SaturatedDoesNotEntail}
use Rattle.search_laws.proofs.Counting.{count_le}
use Rattle.search_laws.proofs.Counting.{length-passing, passing_ascends}
use Rattle.tableau_specs.specs.Blocked.{block_of}
use Rattle.search_laws.proofs.Setting.{Setting, stands_at, like_of, number_of, next_stands}
use Rattle.search_laws.proofs.Truth.{labels_true}
use Rattle.search_laws.proofs.InLimit.{theory_is_order, labels_count_simple, names_are_listed}
use Rattle.search_laws.proofs.Roles.{upward, passed_on}
use Rattle.search_laws.proofs.Parts.{part_met}
use Rattle.search_laws.proofs.First.{first_number, first_original}
use Rattle.search_laws.proofs.Assertions.{first_holds, fact_true, asked_there}
use Rattle.search_laws.specs.Pairs.{LeadsTo}
use Rattle.search_laws.proofs.Chains.{chain_within}
use Rattle.search_laws.proofs.CounterModelComputed.{computed_is_built}

-- ---- elements

pub elements_are_few : ElementsAreFew
elements_are_few first fs some = record {
  is_some = let n = first_number first fs 0 some in omega (arith, n.is_within);
  not_more = omega (
    arith,
    length-passing (is_element first fs) (node_count_from first fs),
    count_le (node_count_from first fs) (is_element first fs) (λ x. eqb (rep fs x) x)
        (λ y lt h. (and_parts (eqb (rep fs y) y) (is_above (block_of first fs y)) h).0),
  );
}

pub first_nodes_are_elements : FirstNodesAreElements
first_nodes_are_elements first fs x lt = record {
  number = number_at first fs x;
  is_its = first_number first fs x lt;
  is_like_itself = first_original first fs x lt;
}

pub elements_differ : ElementsDiffer
elements_differ first fs v u less lt = passing_ascends (is_element first fs) (node_count_from first fs) v u 0 less lt

-- ---- any reached trail

pub computed_interpretations_are_built : ComputedIsBuilt
computed_interpretations_are_built w at sub not_sup k trail lt r limit within =
    computed_is_built w (facts_of trail) (parents_less w at sub not_sup k trail lt r)
    (clear_has_none_under w at sub not_sup k trail lt r) limit within

pub chains_stay_within : ChainsStayWithin
chains_stay_within = chain_within

pub the_labels_count_simple : LabelsCountSimple
the_labels_count_simple = labels_count_simple

-- ---- saturated trails

module _ (o : Listed) (ks : List ℕ) (q : Query) (table : List Shape) (rows : List Row) (k : ℕ) (trail : List Item)
    (i : Interpretation) (s : IsSaturatedSearch o ks q table rows k trail i) where
  abbrev question : Question
  question = question_in o ks q

  abbrev context : SearchContext
  context = context_of (question_in o ks q) table rows

  abbrev fs : List (Fact ℕ)
  fs = facts_of trail

  abbrev sub_number : ℕ
  sub_number = s.reached.sub_number

  abbrev not_sup_number : ℕ
  not_sup_number = s.reached.not_sup_number

  setting : Setting (context_of (question_in o ks q) table rows) trail i
  setting = record {
    table = s.reached.is_table;
    less = parents_less context question.at sub_number not_sup_number k trail s.reached.at_first s.reached.follows;
    none_under =
        clear_has_none_under context question.at sub_number not_sup_number k trail s.reached.at_first s.reached.follows;
    saturated = s.is_saturated;
    none_apart =
        not_apart_itself context question.at sub_number not_sup_number k trail s.reached.at_first s.reached.follows
        (inl s.is_saturated.no_clash);
    order = theory_is_order o.axioms ks;
    simple = labels_count_simple o ks q table rows k trail s.in_limit s.reached;
    built = s.is_built;
  }

  successor_is_element : (r v y : ℕ) → v < i.size → LeadsTo context fs r (node_at question.first fs v) y
      → (u : ℕ) × (u < i.size) × (node_at question.first fs u ≡ y)
  successor_is_element r v y lt lead =
      let n =
      number_of context trail i setting y
      (next_stands context trail i setting r (node_at question.first fs v) y (stands_at context trail i setting v lt)
      lead) in
      (n.number, n.is_within, n.is_at)

  label_is_part : (v c : ℕ) → v < i.size → has fs (node_at question.first fs v) c ≡ true
      → has fs (original question.first fs (node_at question.first fs v)) c ≡ true
  label_is_part v c lt h =
      (like_of context trail i setting (node_at question.first fs v) (stands_at context trail i setting v lt)).has_all c
      h

  label_is_true : (v c : ℕ) → v < i.size → c < length table
      → has fs (original question.first fs (node_at question.first fs v)) c ≡ true → holds i (tree_of table c) v ≡ true
  label_is_true v c lt is_listed h = labels_true context trail i setting v c lt is_listed h

  part_is_met : MeetsParts (theory_of o.axioms ks) i
  part_is_met a p part e = part_met context trail i setting s.reached.is_choice a p part e

  meets_roles : MeetsRoles (theory_of o.axioms ks) i
  meets_roles = record { upward = upward context trail i setting; onward = passed_on context trail i setting }

  meets_facts : MeetsFacts question.fact_of i
  meets_facts a p f e =
      fact_true context trail i setting (length o.individuals) refl o.axioms ks a p f e e
      (s.reached.facts_have_numbers a p f e)

  -- the element of the node in question has what that has from the start
  node_refutes : (v : ℕ) → IsNumberOf question.first fs question.at v → refutes_at i q v ≡ true
  node_refutes v at =
      let stays = start_stays context question.at sub_number not_sup_number k trail s.reached.follows in
      let there = first_holds context trail i setting question.at v in
      and_from (is_asked_at i q.on v) (holds i q.sub v && not (holds i q.sup v))
      (asked_there context trail i setting (length o.individuals) refl q.on v s.reached.at_first at)
      (and_from (holds i q.sub v) (not (holds i q.sup v))
      (sym (normal_truth i q.sub v) ∙ ap (λ (t : Concept). holds i t v) (sym s.reached.sub_reads)
      ∙ there sub_number s.reached.at_first at s.reached.sub_listed stays.0)
      (sym (negated_truth i q.sup v) ∙ ap (λ (t : Concept). holds i t v) (sym s.reached.not_sup_reads)
      ∙ there not_sup_number s.reached.at_first at s.reached.not_sup_listed stays.1))

  has_some : 0 < i.size
  has_some =
      let n = first_number question.first fs question.at s.reached.at_first in
      omega (arith, n.is_within, s.is_built.size_is)

  places : PlacesIndividuals i
  places a = elim (cases_lt (a + 1) question.first) [
    | inl lt ↦ omega (arith, (s.is_built.individuals_are a lt).is_within, s.is_built.size_is)
    | inr past ↦ omega (arith, s.is_built.others_are a (omega (arith, past)), has_some)
  ]

  counter_model : IsCounterModel o ks q i
  counter_model =
      let n = first_number question.first fs question.at s.reached.at_first in
      record {
        names_are_listed = names_are_listed o ks q table rows k trail s.in_limit s.reached i s.is_built;
        has_element = omega (arith, has_some);
        places = places;
        meets_axioms =
            axioms_met i (length o.classes) (length o.roles) (length o.individuals) o.axioms ks
            s.in_limit.ontology.listed meets_roles part_is_met meets_facts;
        counter_example = number_at question.first fs question.at;
        is_element = omega (arith, n.is_within, s.is_built.size_is);
        refutes = node_refutes (number_at question.first fs question.at) n;
      }

pub successors_are_elements : SuccessorsAreElements
successors_are_elements = successor_is_element

pub labels_are_part : LabelsArePart
labels_are_part = label_is_part

pub labels_are_true : LabelsAreTrue
labels_are_true = label_is_true

pub parts_are_met : PartsAreMet
parts_are_met = part_is_met

pub roles_are_met : RolesAreMet
roles_are_met = meets_roles

pub assertions_are_met : AssertionsAreMet
assertions_are_met = meets_facts

pub node_in_question_refutes : NodeInQuestionRefutes
node_in_question_refutes = node_refutes

pub saturated_is_counter_model : SaturatedIsCounterModel
saturated_is_counter_model = counter_model

-- the computed interpretation is one
pub saturated_does_not_entail : SaturatedDoesNotEntail
saturated_does_not_entail o ks q table rows k trail limit reached saturated entails =
    let context : SearchContext = context_of (question_in o ks q) table rows in
    let roles = role_axioms o.axioms ks in
    let i : Interpretation = built context (facts_of trail) (role_limit roles) in
    let is_built : IsBuilt context (facts_of trail) i =
    computed_interpretations_are_built context (question_in o ks q).at reached.sub_number reached.not_sup_number k trail
    reached.at_first reached.follows (role_limit roles) (transitive_within roles) in
    let c = counter_model o ks q table rows k trail i
    (record { in_limit = limit; reached = reached; is_saturated = saturated; is_built = is_built }) in
    let no_counter = entails i c.has_element c.places c.meets_axioms c.counter_example c.is_element in
    let some_counter = c.refutes in
    cc
