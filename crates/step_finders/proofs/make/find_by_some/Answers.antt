use Rattle.std.proofs.Common.{refl}
use Rattle.step_finders.proofs.Making.{makes_some}
use Rattle.step_finders.proofs.make.find_by_some.Goals as goal

pub returns : goal.returns
returns g c =
    makes_some (g.R.Rules.context c.args.search.now.rules.now) (g.S.State.facts c.args.search.now.state.now) c.args.node
    c.args.concept
    c.requires.is_open c.requires.holds c.args.role c.args.filler
    c.requires.shape (c.if-has_filler.ensures.no refl)
