use Rattle.std.proofs.Common.{◌∙◌, ◌<◌, ◌^◌, sym, subst, arith}
use Rattle.std.specs.Prelude.{Result, IfOk, OnErr}
use Rattle.shq_terms.specs.NoMemory.{NoMemory}
use Rattle.audit_jobs.specs.declared.searching.Searched.{Searched}
use Rattle.audit_jobs.specs.Witnessed.{IsSearched, HasAsked}
use Rattle.audit_jobs.proofs.Witnessed.{all_fresh, all_begun, all_searched}
use Rattle.audit_jobs.proofs.searching.search.Goals as goal

pub returns-clause-searched : goal.returns-clause-searched
returns-clause-searched c =
    let o = c.args.ontology.now in
    let q = c.args.query.now in
    let small : c.args.budget < 2 ^ 32 = omega arith in
    subst (λ (r : Result Searched NoMemory). IfOk r (IsSearched o q c.args.budget c.into_log.result))
    (sym c.with_evidence.ensures)
    (all_searched o q c.args.budget c.new-witness.result c.enumerate-outcome.new.entail c.into_log.result
    (all_fresh o q c.args.budget c.new-oracle.result c.replace-begun.result c.new-witness.result c.new-witness.ensures
    c.new-oracle.ensures (c.replace-begun.ensures.value ∙ c.requires.unlogged))
    c.enumerate-outcome.ensures.same c.into_parts-oracle.ensures.is_log
    (c.into_log.ensures ∙ c.into_parts-oracle.ensures.log) c.into_parts-oracle.result.1
    c.into_parts-oracle.ensures.evidence c.requires.in_limit.ontology.few_axioms small
    c.enumerate-outcome.result c.enumerate-outcome.ensures.found c.enumerate-outcome.ensures.shown
    c.enumerate-outcome.ensures.in_budget c.enumerate-outcome.ensures.asked)

pub returns-clause-begun : goal.returns-clause-begun
returns-clause-begun c =
    let o = c.args.ontology.now in
    let q = c.args.query.now in
    let small : c.args.budget < 2 ^ 32 = omega arith in
    subst (λ (r : Result Searched NoMemory). OnErr r (HasAsked o q c.args.budget c.into_log.result))
    (sym c.with_evidence.ensures)
    (all_begun o q c.args.budget c.new-witness.result c.enumerate-outcome.new.entail c.into_log.result
    (all_fresh o q c.args.budget c.new-oracle.result c.replace-begun.result c.new-witness.result c.new-witness.ensures
    c.new-oracle.ensures (c.replace-begun.ensures.value ∙ c.requires.unlogged))
    c.enumerate-outcome.ensures.same c.into_parts-oracle.ensures.is_log
    (c.into_log.ensures ∙ c.into_parts-oracle.ensures.log) c.requires.in_limit.ontology.few_axioms small
    c.into_parts-oracle.result.1 c.enumerate-outcome.result c.enumerate-outcome.ensures.begun
    c.enumerate-outcome.ensures.ran_out c.enumerate-outcome.ensures.asked)
