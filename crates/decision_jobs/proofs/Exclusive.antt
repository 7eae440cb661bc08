-- What is decided is so, and no two verdicts are.
use Rattle.std.proofs.Common.{map, subst}
use Rattle.shq_terms.specs.Listed.{Listed}
use Rattle.shq_meaning.specs.Truth.{Entails}
use Rattle.decision_jobs.specs.declared.certificate.Certificate.TheVariants as C
use Rattle.decision_jobs.proofs.Truth.{followed, not_followed}
use Rattle.job_inputs.proofs.OneReading.{questions}
use Rattle.decision_jobs.specs.Decisions.{IsAccepted}
use Rattle.decision_jobs.specs.Laws.{YesFollows, NoDoesNotFollow, VerdictsExclude}

pub yes_follows : YesFollows
yes_follows question budget bytes out log yes' =
    let d = yes'.decided in
    let shown = subst (IsAccepted d.ontology d.query out) yes'.is_refuted d.accepted in
    record {
      ontology = d.ontology;
      query = d.query;
      is_question = d.is_question;
      what_holds = followed d.ontology d.query (C.Refutation yes'.refutation) shown.1;
    }

pub no_does_not_follow : NoDoesNotFollow
no_does_not_follow question budget bytes out log no' =
    let d = no'.decided in
    let shown = subst (IsAccepted d.ontology d.query out) no'.is_model d.accepted in
    record {
      ontology = d.ontology;
      query = d.query;
      is_question = d.is_question;
      what_holds = not_followed d.ontology d.query (C.Model no'.model) shown.1;
    }

pub verdicts_exclude : VerdictsExclude
verdicts_exclude question b c bytes out text log more yes' no' =
    let one = yes_follows question b bytes out log yes' in
    let other = no_does_not_follow question c bytes text more no' in
    let same =
    questions question bytes one.ontology other.ontology one.query other.query one.is_question other.is_question in
    other.what_holds
    (subst (λ q. Entails (map (λ n. n.axiom) other.ontology.axioms) q) same.1
    (subst (λ (l : Listed). Entails (map (λ n. n.axiom) l.axioms) one.query) same.0 one.what_holds))
