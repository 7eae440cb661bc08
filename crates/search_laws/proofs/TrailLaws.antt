-- The laws.
use Rattle.std.proofs.Common.{◌≡◌, ℕ, true, List, refl}
use Rattle.shq_terms.specs.declared.axioms.Numbered.{Numbered}
use Rattle.shq_terms.specs.declared.axioms.Query.{Query}
use Rattle.shq_terms.specs.declared.axioms.On.TheVariants.{Any}
use Rattle.shq_terms.specs.Concept.{top, bottom}
use Rattle.shq_terms.specs.Uses.{all_use_listed}
use Rattle.ontology_limits.specs.Truth.{Interpretation, meets_all}
use Rattle.refutation_truth.specs.Theory.{named_axioms, theory_of, fact_of_axiom, question_of}
use Rattle.refutation_truth.proofs.Lines.{MeetsTheory, MeetsQuestion}
use Rattle.refutation_truth.proofs.Asserted.{question_met}
use Rattle.search_laws.specs.Theories.{MeetsRoles, MeetsParts, MeetsFacts}
use Rattle.search_laws.specs.TrailLaws.{StartStays, FewSuccessorsFit, TheoriesAreTheirAxioms}
use Rattle.search_laws.proofs.Start.{start_stays}
use Rattle.search_laws.proofs.TrailFew.{few_fit}
use Rattle.search_laws.proofs.Axioms.{meets_named}

pub the_start_stays : StartStays
the_start_stays = start_stays

pub few_successors_fit : FewSuccessorsFit
few_successors_fit = few_fit

-- an interpretation that meets a theory of named axioms, and the facts that they give, meets these
pub axioms_met : (i : Interpretation) (classes roles n : ℕ) (axioms : List Numbered) (ks : List ℕ)
    → all_use_listed classes roles n axioms ≡ true
    → MeetsRoles (theory_of axioms ks) i → MeetsParts (theory_of axioms ks) i → MeetsFacts (fact_of_axiom n axioms ks) i
    → meets_all i (named_axioms axioms ks) ≡ true
axioms_met i classes roles n axioms ks listed roles_met parts facts =
    meets_named i classes roles n axioms ks listed
    (record { upward = roles_met.upward; onward = roles_met.onward; met = parts }) facts

-- a query that each element is a counter-example to
abbrev whether_none : Query
whether_none = record { sub = top; sup = bottom; on = Any }

pub theories_are_their_axioms : TheoriesAreTheirAxioms
theories_are_their_axioms i classes roles n axioms ks listed = (
  λ all.
      let asked : MeetsQuestion i n (question_of n axioms ks whether_none) 0 =
      question_met i n axioms ks whether_none all 0 refl in
      let m : MeetsTheory i (theory_of axioms ks) = asked.theory_met in
      let roles_met : MeetsRoles (theory_of axioms ks) i = record { upward = m.upward; onward = m.onward } in
      let parts : MeetsParts (theory_of axioms ks) i = m.met in
      (roles_met, parts, λ a p f e. (asked.facts_met a p f e).true_of),
  λ (roles_met, parts, facts). axioms_met i classes roles n axioms ks listed roles_met parts facts,
)
