-- What closed tableaux show, and that a question without a finite counter-model has one, where a search can begin.
use Rattle.std.proofs.Common.{ℕ, ◌+◌, List, length}
use Rattle.role_box.specs.Listed.{Listed}
use Rattle.role_box.specs.Query.{Query}
use Rattle.role_box.specs.Shape.{Shape}
use Rattle.role_box.specs.TheoryRows.{Row}
use Rattle.role_box.specs.RoleAxioms.{role_axioms}
use Rattle.role_box.specs.Paths.{role_limit}
use Rattle.refutation_truth.specs.Truth.{Interpretation}
use Rattle.refutation_truth.specs.Theory.{named_axioms, question_of, question_in}
use Rattle.tableau_specs.specs.declared.Item.{Item}
use Rattle.tableau_specs.specs.Items.{facts_of}
use Rattle.tableau_specs.specs.Steps.{SearchContext, IsSaturated}
use Rattle.tableau_specs.specs.Reached.{context_of, IsReached}
use Rattle.absorption.proofs.Lacking.{lack_nothing}
use Rattle.search_laws.specs.Limits.{IsInLimit}
use Rattle.ontology_limits.proofs.Limits.{transitive_within}
use Rattle.search_laws.specs.Closure.{steps_of}
use Rattle.search_laws.specs.ComputedClosure.{given_facts, closure_of}
use Rattle.search_laws.specs.Computed.{built}
use Rattle.search_laws.specs.CounterModelLaws.{IsCounterModel}
use Rattle.search_laws.proofs.Bounds.{legal_runs_are_bounded}
use Rattle.search_laws.proofs.CounterModelLaws.{computed_interpretations_are_built, saturated_is_counter_model}
use Rattle.search_laws.proofs.CounterModelLaws.{saturated_does_not_entail}
use Rattle.search_rules.proofs.Ranged.{ranges_first}
use Rattle.all_worlds.specs.Worlds.{World}
use Rattle.all_worlds.specs.Finite.{world_of}
use Rattle.all_worlds.proofs.Interpreted.{entailment_is_of_finite_worlds}
use Rattle.all_worlds.proofs.Refuted.{so_where_unmet}
use Rattle.guided_search.specs.ClosedTableau.{HasClosedTableau}
use Rattle.guided_search.specs.Laws.{ClosedTableauxHoldIn, ClosedTableauxEntail, ClosedTableauxExcludeCounterModels}
use Rattle.guided_search.specs.Laws.{CanBegin, EntailedFollowsIn}
use Rattle.guided_search.proofs.Unclosed.{begins_closed}
use Rattle.guided_search.proofs.Sound.{met_nowhere}

-- ---- what closed tableaux show

module _ {d : Type 0} (w : World d) where
  pub tableaux_hold : ClosedTableauxHoldIn w
  tableaux_hold k axioms ks q h m =
      so_where_unmet w k axioms ks q.sub q.sup q.on
      (met_nowhere w k (question_of k axioms ks q) (ranges_first axioms ks) h) m

pub tableaux_entail : ClosedTableauxEntail
tableaux_entail k axioms ks q h =
    (entailment_is_of_finite_worlds (named_axioms axioms ks) q).1
    (λ i placed. tableaux_hold (world_of i placed) k axioms ks q h)

pub tableaux_exclude_counter_models : ClosedTableauxExcludeCounterModels
tableaux_exclude_counter_models o ks q i h m =
    let entails = tableaux_entail (length o.individuals) o.axioms ks q h in
    let no_counter = entails i m.has_element m.places m.meets_axioms m.counter_example m.is_element in
    let some_counter = m.refutes in
    cc

-- ---- which questions have one

module _ (o : Listed) (ks : List ℕ) (q : Query) (table : List Shape) (rows : List Row) where
  -- no search ends saturated
  abbrev pub NeverSaturates : Type 0
  NeverSaturates = (k : ℕ) (trail : List Item) → IsReached (question_in o ks q) table rows k trail
      → ¬ IsSaturated (context_of (question_in o ks q) table rows) trail

  -- then there is a closed tableau, since legal runs are bounded
  pub has_tableau : CanBegin (question_in o ks q) table rows → NeverSaturates → ¬ ¬ HasClosedTableau (question_in o ks q)
  has_tableau begins never none =
      begins_closed (question_in o ks q) table rows
      (λ fs. lack_nothing (context_of (question_in o ks q) table rows) fs begins.closed)
      (steps_of (length o.individuals + 1) (length (given_facts (length o.individuals) o.axioms ks))
      (closure_of (length o.individuals) o.axioms ks q))
      (λ k trail r. (legal_runs_are_bounded (length o.individuals) o.axioms ks q table rows k trail r).all_steps_of_trees)
      never begins.trail begins.begun
      (λ closed.
      none
      (record { table = table; rows = rows; trail = begins.trail; begun = begins.begun; tableau = closed }))

  -- a search that ends saturated has found a counter-model
  saturated_has_model : IsInLimit o q → (k : ℕ) (trail : List Item)
      → IsReached (question_in o ks q) table rows k trail
      → IsSaturated (context_of (question_in o ks q) table rows) trail
      → (i : Interpretation) × IsCounterModel o ks q i
  saturated_has_model within k trail r saturated =
      let context : SearchContext = context_of (question_in o ks q) table rows in
      let roles = role_axioms o.axioms ks in
      let i : Interpretation = built context (facts_of trail) (role_limit roles) in
      let is_built =
      computed_interpretations_are_built context (question_in o ks q).at r.sub_number r.not_sup_number k trail
      r.at_first r.follows (role_limit roles) (transitive_within roles) in (
        i,
        saturated_is_counter_model o ks q table rows k trail i
            (record { in_limit = within; reached = r; is_saturated = saturated; is_built = is_built }),
      )

  -- so a question without a counter-model has a closed tableau
  pub closes_without_model : IsInLimit o q → CanBegin (question_in o ks q) table rows
      → ((i : Interpretation) → ¬ IsCounterModel o ks q i) → ¬ ¬ HasClosedTableau (question_in o ks q)
  closes_without_model within begins none =
      has_tableau begins
      (λ k trail r saturated.
      let model = saturated_has_model within k trail r saturated in none model.0 model.1)

module _ {d : Type 0} (w : World d) where
  pub entailed_follows : EntailedFollowsIn w
  entailed_follows o ks q table rows within begins entails m =
      so_where_unmet w (length o.individuals) o.axioms ks q.sub q.sup q.on
      (λ v t.
      has_tableau o ks q table rows begins
      (λ k trail r saturated. saturated_does_not_entail o ks q table rows k trail within r saturated entails)
      (λ h. met_nowhere w (length o.individuals) (question_in o ks q) (ranges_first o.axioms ks) h v t))
      m
