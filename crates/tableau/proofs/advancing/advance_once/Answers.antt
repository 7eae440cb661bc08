use Rattle.tableau.proofs.Kept.{step_closed, step_closing, closed_noted}
use Rattle.tableau.proofs.advancing.advance_once.Goals as goal

pub returns-in_ok-close-in-Closed-clause-advanced : goal.returns-in_ok-close-in-Closed-clause-advanced
returns-in_ok-close-in-Closed-clause-advanced g c =
    step_closed c.args.rules.now c.args.progress.now c.step.new.self c.close.new.progress c.in_ok-step.field-0
    c.in_ok-close-in-Closed.field-0 c.closed.result c.in-Closed.is c.in_ok-step.ensures c.in_ok-close-in-Closed.ensures
    c.closed.ensures

pub returns-in_ok-close-in-Closed-clause-noted : goal.returns-in_ok-close-in-Closed-clause-noted
returns-in_ok-close-in-Closed-clause-noted g c =
    closed_noted c.args.rules.now c.args.progress.now c.close.new.progress c.args.seen.now
    c.in_ok-close-in-Closed.field-0 c.closed.result c.closed.ensures

pub close-requires : goal.close-requires
close-requires g c =
    step_closing c.args.rules.now c.args.progress.now c.step.new.self c.requires.in_limit c.requires.set c.requires.at
    c.requires.searching c.in_ok-step.field-0 c.in-Closed.is c.in_ok-step.ensures
