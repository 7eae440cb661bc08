use Rattle.tableau.proofs.Kept.{rest_closed, rest_closing}
use Rattle.tableau.proofs.advancing.rest.Goals as goal

pub returns-in_ok-close-in-Closed : goal.returns-in_ok-close-in-Closed
returns-in_ok-close-in-Closed g c =
    rest_closed c.args.rules.now c.args.progress.now c.rest.new.self c.close.new.progress c.in_ok-rest.field-0
    c.in_ok-close-in-Closed.field-0 c.closed.result c.in-Closed.is c.in_ok-rest.ensures c.in_ok-close-in-Closed.ensures
    c.closed.ensures

pub close-requires : goal.close-requires
close-requires g c =
    rest_closing c.args.rules.now c.args.progress.now c.rest.new.self c.requires.in_limit c.requires.set c.requires.at
    c.requires.searching c.in_ok-rest.field-0 c.in-Closed.is c.in_ok-rest.ensures
