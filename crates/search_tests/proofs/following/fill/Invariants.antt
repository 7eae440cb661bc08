use Rattle.completion_tree.specs.Trail.{facts_in}
use Rattle.blocking.specs.Followed.{IsCurrent}
use Rattle.search_tests.proofs.following.fill.Given as goal

abbrev pub invariant-loop-fact : goal.invariant-loop-fact
invariant-loop-fact l = IsCurrent l.tree.first (facts_in l.tree.entries) l.blocks
