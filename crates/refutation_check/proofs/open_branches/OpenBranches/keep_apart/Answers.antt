use Rattle.std.proofs.Common.{◌+◌, ◌-◌, ◌≡◌, ap, ◌∙◌, arith}
use Rattle.calculus_specs.specs.State.{apart_from, pairwise_apart}
use Rattle.refutation_check.specs.Open.{knowing}
use Rattle.refutation_check.proofs.Grown.{know_step}
use Rattle.refutation_check.proofs.Ranges.{next_pairs}
use Rattle.refutation_check.proofs.open_branches.OpenBranches.keep_apart.Goals as goal

pub loop-place-preserved : goal.loop-place-preserved
loop-place-preserved c =
    let first = c.args.first in
    let place = c.loop-place.place in
    let count = c.args.count in
    let left : count - 1 - place ≡ count - (place + 1) = omega arith in
    let kept : c.keep_from.new.self
    ≡ knowing c.loop-place.self (apart_from (first + place) (first + place + 1) (count - (place + 1))) =
    c.in_ok-keep_from.ensures
    ∙ ap (λ n. knowing c.loop-place.self (apart_from (first + place) (first + place + 1) n)) left in
    know_step c.loop-place.self c.keep_from.new.self (knowing c.args.self.now (pairwise_apart first count))
    (apart_from (first + place) (first + place + 1) (count - (place + 1)))
    (pairwise_apart (first + (place + 1)) (count - (place + 1))) (pairwise_apart (first + place) (count - place))
    kept (next_pairs first place count c.loop-place-test.true) c.loop-place.invariant
