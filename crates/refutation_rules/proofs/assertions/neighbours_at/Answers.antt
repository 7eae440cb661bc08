use Rattle.std.proofs.Common.{arith}
use Rattle.refutation_rules.proofs.FactPlaces.{neighbours, no_neighbours}
use Rattle.refutation_rules.proofs.assertions.neighbours_at.Goals as goal

pub returns-then-place-individuals : goal.returns-then-place-individuals
returns-then-place-individuals c =
    no_neighbours c.args.individuals.now c.args.place (omega (arith, c.if-place-eq0.false))
    (omega (arith, c.if-place-individuals.true))

pub returns : goal.returns
returns c = neighbours c.args.individuals.now c.args.place (omega (arith, c.if-place-eq0.false))
    (omega (arith, c.if-place-individuals.false))
