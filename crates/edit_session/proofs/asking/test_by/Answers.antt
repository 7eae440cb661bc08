use Rattle.edit_session.proofs.Deciding.{if_decided, grows_log}
use Rattle.edit_session.proofs.asking.test_by.Goals as goal

pub returns-clause-decided : goal.returns-clause-decided
returns-clause-decided c =
    if_decided c.args.oracle.now c.test.new.self c.args.live.now c.args.query.now c.requires.new
    c.test.ensures.same_budget c.test.result c.test.ensures.entry c.test.ensures.spent

pub returns-clause-longer : goal.returns-clause-longer
returns-clause-longer c =
    grows_log c.args.oracle.now.ontology c.args.live.now c.args.query.now c.args.oracle.now.log c.test.new.self.log
    c.test.result c.test.ensures.entry c.test.ensures.unchanged
