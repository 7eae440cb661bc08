use Rattle.tableau.proofs.Kept.{advanced_first, followed_advanced}
use Rattle.tableau.proofs.advancing.advance.Goals as goal

pub follow-requires : goal.follow-requires
follow-requires g c =
    advanced_first c.args.rules.now c.args.progress.now c.advance_once.new.progress c.in_ok-event.event
    c.in_ok-event.ensures.advanced

pub returns-clause-advanced : goal.returns-clause-advanced
returns-clause-advanced g c =
    followed_advanced c.args.rules.now c.args.progress.now c.advance_once.new.progress c.follow.new.self
    c.in_ok-follow.ensures.followed c.in_ok-follow.ensures.first c.in_ok-event.event c.in_ok-event.ensures.advanced
