use Rattle.std.proofs.Common.{◌≡◌}
use Rattle.std.specs.List.{list_any, range_with_len}
use Rattle.branch_facts.specs.NumberedBranch.{has_node}
use Rattle.refutation_rules.proofs.new_nodes.knows_any.Given as goal

abbrev pub invariant-loop-offset : goal.invariant-loop-offset
invariant-loop-offset l = l.found ≡ list_any (has_node l.fn.branch) (range_with_len l.first l.offset)
