use Rattle.std.proofs.Common.{ℕ, List, ap, sym, ◌∙◌, subst}
use Rattle.std.specs.Prelude.{IfOk}
use Rattle.shq_oracle.specs.Entry.{Entry}
use Rattle.shq_oracle.specs.OracleLists.{OracleLists}
use Rattle.shq_oracle.specs.Decided.{IsAnswer, AppendsTest}
use Rattle.decision_jobs.specs.Decisions.{IsLogged}
use Rattle.decision_jobs.proofs.Logged.{is_whole, asked_whole, asked_logged, none_spent, none_answered}
use Rattle.decision_jobs.proofs.deciding.decide.Goals as goal

pub decide-outcome-requires-clause-goes_on : goal.decide-outcome-requires-clause-goes_on
decide-outcome-requires-clause-goes_on c =
    none_spent c.new-oracle.result.log
    (ap (λ (l : OracleLists). l.log) c.new-oracle.ensures ∙ c.replace-begun.ensures.value ∙ c.requires.unlogged)

pub decide-outcome-requires-clause-is_new : goal.decide-outcome-requires-clause-is_new
decide-outcome-requires-clause-is_new c =
    none_answered c.new-oracle.result.log c.in_ok-all.all c.args.query.now
    (ap (λ (l : OracleLists). l.log) c.new-oracle.ensures ∙ c.replace-begun.ensures.value ∙ c.requires.unlogged)

pub returns-clause-decision : goal.returns-clause-decision
returns-clause-decision c =
    let o = c.args.ontology.now in
    let q = c.args.query.now in
    let all = c.in_ok-all.all in
    let r = c.decide-outcome.result in
    asked_whole o all q c.new-oracle.result c.decide-outcome.new.self r
    (is_whole o all _ c.axiom_count.ensures.count c.in_ok-all.ensures.limit c.in_ok-all.ensures.members)
    (subst (λ p. IfOk r (IsAnswer p all q)) (ap (λ (l : OracleLists). l.ontology) c.new-oracle.ensures)
    c.decide-outcome.ensures.answer)

pub returns-clause-logged : goal.returns-clause-logged
returns-clause-logged c =
    let o = c.args.ontology.now in
    let q = c.args.query.now in
    let all = c.in_ok-all.all in
    let r = c.decide-outcome.result in
    let before = c.new-oracle.result in
    let after = c.decide-outcome.new.self in
    let same = ap (λ (l : OracleLists). l.ontology) c.new-oracle.ensures in
    subst (λ (l : List Entry). IfOk r (λ d. IsLogged o q c.args.budget d l)) (sym c.into_log.ensures)
    (subst (λ (b : ℕ). IfOk r (λ d. IsLogged o q b d after.log)) (ap (λ (l : OracleLists). l.budget) c.new-oracle.ensures)
    (asked_logged o all q before after r same c.decide-outcome.ensures.same_ontology
    c.decide-outcome.ensures.same_budget
    (ap (λ (l : OracleLists). l.log) c.new-oracle.ensures ∙ c.replace-begun.ensures.value ∙ c.requires.unlogged)
    (is_whole o all _ c.axiom_count.ensures.count c.in_ok-all.ensures.limit c.in_ok-all.ensures.members)
    c.decide-outcome.ensures.within
    (subst (λ p. IfOk r (AppendsTest p all q before.log after.log)) same c.decide-outcome.ensures.entry)
    c.decide-outcome.ensures.spent))
