use Rattle.completion_tree.specs.Trail.{facts_in}
use Rattle.blocking.specs.Followed.{IsCurrent}
use Rattle.search_tests.proofs.random_tests.is_walk.Given as goal

abbrev pub invariant-loop : goal.invariant-loop
invariant-loop l = IsCurrent l.tree.first (facts_in l.tree.entries) l.blocks
