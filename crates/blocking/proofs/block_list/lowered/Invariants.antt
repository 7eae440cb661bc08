use Rattle.std.proofs.Common.{drop}
use Rattle.completion_tree.specs.Trail.{facts_in}
use Rattle.blocking.specs.Followed.{IsBound}
use Rattle.blocking.proofs.block_list.lowered.Given as goal

abbrev pub invariant-loop-other : goal.invariant-loop-other
invariant-loop-other g l =
    IsBound (facts_in l.tree.entries) l.blocks l.node (drop l.other-index l.changed) l.least
