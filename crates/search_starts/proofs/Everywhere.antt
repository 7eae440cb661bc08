-- Each question is decided, and what is entailed follows in every world.
use Rattle.std.proofs.Common.{◌≡◌, ℕ, Bool, true, false, List, length, refl}
use Rattle.role_box.specs.Listed.{Listed}
use Rattle.role_box.specs.Query.{Query}
use Rattle.refutation_truth.specs.Truth.{Entails}
use Rattle.refutation_truth.specs.Theory.{named_axioms, question_in}
use Rattle.search_laws.specs.Limits.{IsInLimit}
use Rattle.search_rules.proofs.Ranged.{ranges_first}
use Rattle.all_worlds.specs.Worlds.{World}
use Rattle.all_worlds.proofs.Interpreted.{entailment_is_of_finite_worlds}
use Rattle.all_worlds.proofs.Refuted.{so_where_unmet}
use Rattle.guided_search.specs.ClosedTableau.{HasClosedTableau}
use Rattle.guided_search.proofs.Sound.{met_nowhere}
use Rattle.guided_search.proofs.Everywhere.{closes_without_model, tableaux_entail}
use Rattle.search_starts.specs.Laws.{SearchesCanBegin, EachQuestionIsDecided, EntailedIsWhatCloses}
use Rattle.search_starts.specs.Laws.{EntailedFollowsIn, EntailedIsWhatFollowsIn}
use Rattle.search_starts.proofs.NormalTrees.{closure_normal}
use Rattle.search_starts.proofs.Begun.{begins}

pub can_begin : SearchesCanBegin
can_begin o ks q within = begins o ks q within (closure_normal o ks q within)

pub is_decided : EachQuestionIsDecided
is_decided o ks q within undecided =
    can_begin o ks q within
    (λ table rows search.
    closes_without_model o ks q table rows within search undecided.no_counter_model undecided.no_tableau)

-- an entailed query has no counter-model
entailed_closes : (o : Listed) (ks : List ℕ) (q : Query) → IsInLimit o q → Entails (named_axioms o.axioms ks) q
    → ¬ ¬ HasClosedTableau (question_in o ks q)
entailed_closes o ks q within entails none =
    is_decided o ks q within
    (record {
      no_tableau = none;
      no_counter_model =
          λ i m.
          (let no_counter = entails i m.has_element m.places m.meets_axioms m.counter_example m.is_element in
          let some_counter = m.refutes in
          cc);
    })

-- a test that is not true is false
false_from : (b : Bool) → ¬ ¬ (b ≡ false) → b ≡ false
false_from true h = absurd (h (λ e. cc))
false_from false h = refl

pub is_what_closes : EntailedIsWhatCloses
is_what_closes o ks q within = (
  entailed_closes o ks q within,
  λ closes i some places meets x lt.
      false_from _
      (λ none.
      closes
      (λ tableau. none (tableaux_entail (length o.individuals) o.axioms ks q tableau i some places meets x lt))),
)

module _ {d : Type 0} (w : World d) where
  pub entailed_follows : EntailedFollowsIn w
  entailed_follows o ks q within entails m =
      so_where_unmet w (length o.individuals) o.axioms ks q.sub q.sup q.on
      (λ v t.
      entailed_closes o ks q within entails
      (λ tableau. met_nowhere w (length o.individuals) (question_in o ks q) (ranges_first o.axioms ks) tableau v t))
      m

  pub entailed_is_what_follows : EntailedIsWhatFollowsIn w
  entailed_is_what_follows o ks q within =
      let finite = entailment_is_of_finite_worlds (named_axioms o.axioms ks) q in
      (λ entails. (entailed_follows o ks q within entails, finite.0 entails), λ follows. finite.1 follows.1)
