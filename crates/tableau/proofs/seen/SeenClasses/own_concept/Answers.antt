use Rattle.std.proofs.Common.{arith}
use Rattle.search_state.specs.Trail.{facts_in}
use Rattle.tableau.proofs.Bearing.{none_of_label}
use Rattle.tableau.proofs.seen.SeenClasses.own_concept.Goals as goal

pub returns : goal.returns
returns g c =
    none_of_label c.args.self.now (facts_in c.args.tree.now.entries) c.args.node c.args.concept
    c.label-own-items.result.now c.label-own-items.ensures.held
    (λ k d lt. c.loop-own.invariant k d (omega (arith, lt, c.loop-own-test.false)))
