use Rattle.std.proofs.Common.{arith}
use Rattle.step_finders.proofs.Gathered.{later_unapart}
use Rattle.step_finders.proofs.unapart.find_unapart.Goals as goal

pub returns-in-Some : goal.returns-in-Some
returns-in-Some g c =
    later_unapart (g.S.State.facts c.args.state.now) c.args.nodes.now c.loop-place.place c.in-Some.other
    c.requires.distinct (omega (arith, c.loop-place-test.true)) c.in-Some.ensures
