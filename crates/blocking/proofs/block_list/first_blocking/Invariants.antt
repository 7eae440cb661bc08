use Rattle.std.proofs.Common.{◌≡◌, drop}
use Rattle.completion_tree.specs.Trail.{facts_in}
use Rattle.blocking.specs.Followed.{blocked_among}
use Rattle.blocking.proofs.block_list.first_blocking.Given as goal

abbrev pub invariant-loop-other : goal.invariant-loop-other
invariant-loop-other g l =
    blocked_among (facts_in l.tree.entries) l.blocks l.node (drop l.other-index l.found)
    ≡ blocked_among (facts_in l.tree.entries) l.blocks l.node l.found
