-- What was read stays as it is where something else holds of it.
use Rattle.std.proofs.Common.{ℕ, List, map}
use Rattle.shq_terms.specs.Concept.{Concept}
use Rattle.shq_terms.specs.Listed.{Listed}
use Rattle.shq_terms.specs.declared.axioms.Axiom.{Axiom}
use Rattle.shq_terms.specs.declared.axioms.Query.{Query as Asked}
use Rattle.decision_jobs.specs.Laws.{HaveAsked}
use Rattle.job_inputs.specs.Questions.{Text}
use Rattle.job_inputs.specs.Refusals.{OnDocument}
use Rattle.individual_jobs.specs.Answers.{OnClass}
use Rattle.ontology_jobs.specs.Laws.{HaveRead}

-- the axioms of an ontology, without their numbers
abbrev pub axioms_of : Listed → List Axiom
axioms_of o = map (λ n. n.axiom) o.axioms

pub on_document : (p q : Listed → Type 0) (bytes : List ℕ) (on : OnDocument p bytes) → q on.ontology
    → OnDocument q bytes
on_document p q bytes on so = record {
  ontology = on.ontology;
  kept = on.kept;
  is_document = on.is_document;
  so = so;
}

pub on_class : (p q : Listed → Concept → Type 0) (class bytes : List ℕ) (on : OnClass class bytes p)
    → q on.ontology on.query.sub → OnClass class bytes q
on_class p q class bytes on so = record {
  ontology = on.ontology;
  query = on.query;
  is_question = on.is_question;
  so = so;
}

pub of_asked : (p q : List Axiom → Asked → Type 0) (question : Text) (bytes : List ℕ) (h : HaveAsked p question bytes)
    → q (axioms_of h.ontology) h.query → HaveAsked q question bytes
of_asked p q question bytes h holds = record {
  ontology = h.ontology;
  query = h.query;
  is_question = h.is_question;
  what_holds = holds;
}

pub of_read : (p q : List Axiom → Asked → Type 0) (query bytes : List ℕ) (h : HaveRead p query bytes)
    → q (axioms_of h.document) h.asked → HaveRead q query bytes
of_read p q query bytes h holds = record {
  document = h.document;
  kept = h.kept;
  end = h.end;
  counts = h.counts;
  asked = h.asked;
  is_document = h.is_document;
  is_query = h.is_query;
  what_holds = holds;
}
