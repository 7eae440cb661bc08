use Rattle.std.proofs.Common.{List, subst, sym, ap, ◌∙◌}
use Rattle.shq_oracle.specs.Entry.{Entry}
use Rattle.shq_oracle.specs.Entries.{IsAnswered}
use Rattle.shq_oracle.specs.OracleLists.{OracleLists}
use Rattle.edit_session.proofs.Deciding.{by_oracle}
use Rattle.edit_session.proofs.asking.test.Goals as goal

pub test_by-outcome-requires-clause-new : goal.test_by-outcome-requires-clause-new
test_by-outcome-requires-clause-new c =
    subst (λ (log : List Entry). ¬ IsAnswered log c.args.live.now c.args.query.now)
    (sym (ap (λ (l : OracleLists). l.log) c.new-oracle.ensures ∙ c.replace-begun.ensures.value)) c.requires.new

pub returns-clause-decided : goal.returns-clause-decided
returns-clause-decided c =
    by_oracle c.args.ontology.now c.args.live.now c.args.query.now c.args.budget c.args.log.now c.replace-begun.result
    c.into_log.result c.test_by-outcome.new.oracle.log c.new-oracle.result c.new-oracle.ensures
    c.replace-begun.ensures.value
    c.into_log.ensures c.test_by-outcome.result c.test_by-outcome.ensures.decided
