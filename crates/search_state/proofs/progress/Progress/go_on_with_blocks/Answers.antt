use Rattle.std.specs.Prelude.{Result, Ok, Err, IfOk}
use Rattle.search_state.specs.Stepping.{IsStepped}
use Rattle.search_state.proofs.Followed.{still_stands, still_none, stepped_after}
use Rattle.search_state.proofs.progress.Progress.go_on_with_blocks.Goals as goal

if_ok : {T E : Type 0} (r : Result T E) (P Q : T → Type 0) → ((x : T) → P x → Q x) → IfOk r P → IfOk r Q
if_ok (Ok x) P Q f h = f x h
if_ok (Err e) P Q f h = tt

pub go_on_followed-requires-clause-standing : goal.go_on_followed-requires-clause-standing
go_on_followed-requires-clause-standing g c =
    still_stands (g.R.Rules.context c.args.rules.now) c.args.self.now c.follow.new.self
    c.in_ok-follow.ensures.followed.same c.in_ok-follow.ensures.first c.requires.standing

pub go_on_followed-requires-clause-none : goal.go_on_followed-requires-clause-none
go_on_followed-requires-clause-none g c =
    still_none (g.R.Rules.context c.args.rules.now) c.args.self.now c.follow.new.self
    c.in_ok-follow.ensures.followed.same c.requires.none

pub returns : goal.returns
returns g c =
    let w = g.R.Rules.context c.args.rules.now in
    if_ok c.go_on_followed.result (IsStepped w c.follow.new.self c.go_on_followed.new.self)
    (IsStepped w c.args.self.now c.go_on_followed.new.self)
    (stepped_after w c.args.self.now c.follow.new.self c.go_on_followed.new.self c.in_ok-follow.ensures.followed.same)
    c.go_on_followed.ensures
