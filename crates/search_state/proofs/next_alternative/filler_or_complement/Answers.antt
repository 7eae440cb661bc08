use Rattle.std.proofs.Common.{arith, ℕ}
use Rattle.search_state.proofs.Placed.{of_first, of_second}
use Rattle.search_state.proofs.next_alternative.filler_or_complement.Goals as goal

pub returns-then-place-eq0 : goal.returns-then-place-eq0
returns-then-place-eq0 g c =
    λ (y : ℕ). of_first (g.R.Rules.context c.args.rules.now).table c.args.place y c.args.concept c.if-place-eq0.true

pub returns : goal.returns
returns g c =
    λ (y : ℕ). of_second (g.R.Rules.context c.args.rules.now).table c.args.place y c.args.concept c.in-Some.complement
    (omega (arith, c.requires.two, c.if-place-eq0.false)) c.in-Some.ensures
