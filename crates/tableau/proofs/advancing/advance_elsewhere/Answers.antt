use Rattle.std.proofs.Common.{subst}
use Rattle.search_rules.specs.RuleLists.{context_in}
use Rattle.search_state.specs.Stepping.{IsSteppedElsewhere}
use Rattle.tableau.proofs.Kept.{step_closed, step_closing, closed_noted}
use Rattle.tableau.proofs.advancing.advance_elsewhere.Goals as goal

pub returns-in_ok-close-in-Closed-clause-advanced : goal.returns-in_ok-close-in-Closed-clause-advanced
returns-in_ok-close-in-Closed-clause-advanced g c =
    let old = c.args.progress.now in
    let mid = c.step_elsewhere.new.self in
    step_closed c.args.rules.now old mid c.close.new.progress c.in-Some.stepped c.in_ok-close-in-Closed.field-0
    c.closed.result c.in-Closed.is
    (subst (IsSteppedElsewhere (context_in c.args.rules.now) old mid) c.in-Some.is c.in_ok-found.ensures)
    c.in_ok-close-in-Closed.ensures c.closed.ensures

pub returns-in_ok-close-in-Closed-clause-noted : goal.returns-in_ok-close-in-Closed-clause-noted
returns-in_ok-close-in-Closed-clause-noted g c =
    closed_noted c.args.rules.now c.args.progress.now c.close.new.progress c.args.seen.now
    c.in_ok-close-in-Closed.field-0 c.closed.result c.closed.ensures

pub close-requires : goal.close-requires
close-requires g c =
    let old = c.args.progress.now in
    let mid = c.step_elsewhere.new.self in
    step_closing c.args.rules.now old mid c.requires.in_limit c.requires.set c.requires.at c.requires.searching
    c.in-Some.stepped c.in-Closed.is
    (subst (IsSteppedElsewhere (context_in c.args.rules.now) old mid) c.in-Some.is c.in_ok-found.ensures)
