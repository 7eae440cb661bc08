use Rattle.tableau.proofs.Kept.{settled_first, followed_settled}
use Rattle.tableau.proofs.advancing.settle.Goals as goal

pub follow-requires : goal.follow-requires
follow-requires g c =
    settled_first c.args.rules.now c.args.progress.now c.rest.new.progress c.in_ok-end.end c.in_ok-end.ensures

pub returns-clause-settled : goal.returns-clause-settled
returns-clause-settled g c =
    followed_settled c.args.rules.now c.args.progress.now c.rest.new.progress c.follow.new.self
    c.in_ok-follow.ensures.followed c.in_ok-follow.ensures.first c.in_ok-end.end c.in_ok-end.ensures
