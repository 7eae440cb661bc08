use Rattle.std.proofs.Common.{arith, sym, ◌∙◌}
use Rattle.refutation_rules.proofs.FactPlaces.{pair_found, pair_later}
use Rattle.refutation_rules.proofs.assertions.pair_at.Goals as goal

pub returns-then-rest-later : goal.returns-then-rest-later
returns-then-rest-later c =
    sym (pair_found c.args.individuals.now c.loop-first.first c.loop-first.rest
    (omega (arith, c.if-rest-later.true, c.loop-first-test.true)))
    ∙ c.loop-first.invariant

pub loop-first-preserved : goal.loop-first-preserved
loop-first-preserved c =
    pair_later c.args.individuals.now c.loop-first.first c.loop-first.rest c.loop-first-test.true c.if-rest-later.false
    ∙ c.loop-first.invariant
