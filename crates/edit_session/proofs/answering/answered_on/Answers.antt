use Rattle.std.proofs.Common.{sym, subst}
use Rattle.edit_session.specs.SessionLog.{IsSessionLog}
use Rattle.edit_session.proofs.Beginning.{new_may_go_on}
use Rattle.edit_session.proofs.Scripted.{after_err}
use Rattle.edit_session.proofs.Answered.{nothing_logged}
use Rattle.edit_session.proofs.answering.answered_on.Goals as goal

pub answers_of-outcome-requires-clause-may_go_on : goal.answers_of-outcome-requires-clause-may_go_on
answers_of-outcome-requires-clause-may_go_on c =
    rw (c.in_ok-session.ensures, c.requires.unlogged) (new_may_go_on c.args.ontology c.args.context c.args.budget).0

pub answers_of-outcome-requires-clause-honest : goal.answers_of-outcome-requires-clause-honest
answers_of-outcome-requires-clause-honest c =
    rw (c.in_ok-session.ensures, c.requires.unlogged) (new_may_go_on c.args.ontology c.args.context c.args.budget).1

pub returns-in_err-session-clause-begun : goal.returns-in_err-session-clause-begun
returns-in_err-session-clause-begun c =
    after_err c.from_residual.result _
    (nothing_logged c.args.budget c.args.log.now _ _ c.requires.unlogged
    (subst (IsSessionLog c.args.ontology c.args.budget) (sym c.requires.unlogged)
    (new_may_go_on c.args.ontology c.args.context c.args.budget).1))
