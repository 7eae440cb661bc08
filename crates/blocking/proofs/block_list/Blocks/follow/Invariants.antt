use Rattle.completion_tree.specs.Trail.{facts_in}
use Rattle.blocking.specs.Followed.{IsFollowed}
use Rattle.blocking.proofs.block_list.Blocks.follow.Given as goal

abbrev pub invariant-loop-node : goal.invariant-loop-node
invariant-loop-node g l = IsFollowed l.tree.first (facts_in l.tree.entries) l.node l.self
