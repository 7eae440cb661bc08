use Rattle.std.proofs.Common.{arith}
use Rattle.search_rules.proofs.Counted.{all_mosts}
use Rattle.search_rules.proofs.mosts.most_lists.Goals as goal

pub returns : goal.returns
returns c =
    λ d. all_mosts c.args.concepts.now d _ c.loop-number.number
    (omega (arith, c.loop-number-test.false, c.len-number-end.ensures.count, c.loop-number.auto.number-end))
    (c.loop-number.invariant.are d)

pub loop-number-preserved : goal.loop-number-preserved
loop-number-preserved c = record { long = c.in_ok-push_most.ensures.count; are = c.in_ok-push_most.ensures.mosts }
