use Rattle.std.proofs.Common.{arith, List}
use Rattle.calculus_specs.specs.Shape.{Shape}
use Rattle.search_state.proofs.Placed.{joined, parted}
use Rattle.search_state.proofs.next_alternative.joined_or_parted.Goals as goal

pub returns-then-place-eq0 : goal.returns-then-place-eq0
returns-then-place-eq0 c =
    λ (table : List Shape). joined table c.args.place c.args.first c.args.second c.if-place-eq0.true

pub returns-else-place-eq0 : goal.returns-else-place-eq0
returns-else-place-eq0 c =
    λ (table : List Shape). parted table c.args.place c.args.first c.args.second
    (omega (arith, c.requires, c.if-place-eq0.false))
