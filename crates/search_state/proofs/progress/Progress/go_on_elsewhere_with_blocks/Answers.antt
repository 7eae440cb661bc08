use Rattle.std.proofs.lemmas.Result.{IfOk-weaker}
use Rattle.search_state.specs.Stepping.{IsSteppedElsewhere}
use Rattle.search_state.proofs.Followed.{still_searches, still_none}
use Rattle.search_state.proofs.Idle.{elsewhere_after}
use Rattle.search_state.proofs.progress.Progress.go_on_elsewhere_with_blocks.Goals as goal

pub go_on_elsewhere_followed-requires-clause-searching : goal.go_on_elsewhere_followed-requires-clause-searching
go_on_elsewhere_followed-requires-clause-searching g c =
    still_searches (g.R.Rules.context c.args.rules.now) c.args.self.now c.follow.new.self
    c.in_ok-follow.ensures.followed.same c.in_ok-follow.ensures.first c.requires.searching

pub go_on_elsewhere_followed-requires-clause-none : goal.go_on_elsewhere_followed-requires-clause-none
go_on_elsewhere_followed-requires-clause-none g c =
    still_none (g.R.Rules.context c.args.rules.now) c.args.self.now c.follow.new.self
    c.in_ok-follow.ensures.followed.same c.requires.none

pub returns : goal.returns
returns g c =
    let w = g.R.Rules.context c.args.rules.now in
    let new = c.go_on_elsewhere_followed.new.self in
    IfOk-weaker c.go_on_elsewhere_followed.result (IsSteppedElsewhere w c.follow.new.self new)
    (IsSteppedElsewhere w c.args.self.now new)
    (elsewhere_after w c.args.self.now c.follow.new.self new c.in_ok-follow.ensures.followed.same)
    c.go_on_elsewhere_followed.ensures
