use Rattle.std.proofs.Common.{◌+◌, ◌-◌, [], ◌∷◌}
use Rattle.calculus_specs.specs.declared.facts.Fact.TheVariants.{Apart}
use Rattle.calculus_specs.specs.State.{apart_from}
use Rattle.refutation_check.specs.Open.{knowing}
use Rattle.refutation_check.proofs.Grown.{know_step}
use Rattle.refutation_check.proofs.Ranges.{next_apart}
use Rattle.refutation_check.proofs.open_branches.OpenBranches.keep_from.Goals as goal

pub loop-place-preserved : goal.loop-place-preserved
loop-place-preserved c =
    let node = c.args.node in
    let place = c.loop-place.place in
    let count = c.args.count in
    know_step c.loop-place.self c.add.new.self (knowing c.args.self.now (apart_from node (node + 1) count))
    (Apart node (node + 1 + place) ∷ [])
    (apart_from node (node + 1 + (place + 1)) (count - (place + 1)))
    (apart_from node (node + 1 + place) (count - place))
    c.in_ok-add.ensures (next_apart node (node + 1) place count c.loop-place-test.true) c.loop-place.invariant
