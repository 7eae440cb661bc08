-- From what is read to what follows of it in every world.
use Rattle.std.proofs.Common.{ℕ, ◌<◌, List, length, sym, subst}
use Rattle.shq_terms.specs.Listed.{Listed}
use Rattle.shq_terms.specs.declared.axioms.Axiom.{Axiom}
use Rattle.shq_terms.specs.declared.axioms.Query.{Query as Asked}
use Rattle.pinpointing_specs.specs.Truth.{Entails}
use Rattle.all_worlds.specs.Worlds.{World}
use Rattle.all_worlds.proofs.Interpreted.{entailment_is_of_finite_worlds}
use Rattle.answers_everywhere.specs.Laws.{IsOfWorld}
use Rattle.answers_everywhere.proofs.Everywhere.{questions, instances}
use Rattle.realizer.specs.Instances.{instance_query}
use Rattle.job_inputs.specs.Questions.{Text, has_element, IsQuestion}
use Rattle.runs_everywhere.specs.Laws.{FailsInAFiniteWorld}

-- what is not entailed fails in a finite world
pub fails : (axioms : List Axiom) (q : Asked) → ¬ Entails axioms q → FailsInAFiniteWorld axioms q
fails axioms q follows_not all = follows_not ((entailment_is_of_finite_worlds axioms q).1 all)

module _ {d : Type 0} (w : World d) where
  -- the query of a question
  pub of_question : (question : Text) (bytes : List ℕ) (both : Listed) (q : Asked) → IsQuestion question bytes both q
      → IsOfWorld w both.axioms q
  of_question question bytes both q is =
      subst (λ (l : Listed). IsOfWorld w l.axioms q) (sym is.both_are)
      (questions w bytes is.document is.kept is.is_document.end is.is_document.is_document question is.counts q
      is.is_asked)

  -- whether a listed individual is in the class expression of a question
  pub of_instance : (class bytes : List ℕ) (both : Listed) (q : Asked) → IsQuestion (has_element class) bytes both q
      → (a : ℕ) → a < length both.individuals → IsOfWorld w both.axioms (instance_query q.sub a)
  of_instance class bytes both q is a lt =
      subst (λ (l : Listed). IsOfWorld w l.axioms (instance_query q.sub a)) (sym is.both_are)
      (instances w bytes is.document is.kept is.is_document.end is.is_document.is_document class is.counts q.sub
      is.is_asked.0 a (subst (λ (l : Listed). a < length l.individuals) is.both_are lt))
