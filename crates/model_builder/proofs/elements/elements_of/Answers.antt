use Rattle.std.proofs.Common.{arith}
use Rattle.model_builder.proofs.Numbers.{few_originals, numbered_more}
use Rattle.model_builder.proofs.elements.elements_of.Goals as goal

pub put_node-requires : goal.put_node-requires
put_node-requires g c = omega (arith, few_originals _ _ _ _ _ c.loop-node.invariant)

pub loop-node-preserved : goal.loop-node-preserved
loop-node-preserved g c =
    numbered_more _ _ _ _ _ c.loop-node.invariant _ _ _ c.original_of-original.ensures c.in_ok-put_node.ensures.numbers
    c.in_ok-put_node.ensures.originals

pub returns-clause-few : goal.returns-clause-few
returns-clause-few g c = omega (arith, few_originals _ _ _ _ _ c.loop-node.invariant)
