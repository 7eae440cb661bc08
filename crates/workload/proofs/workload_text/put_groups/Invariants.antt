use Rattle.std.proofs.Common.{◌≡◌, ◌++◌}
use Rattle.workload.specs.WorkloadText.{groups_text}
use Rattle.workload.proofs.workload_text.put_groups.Given as goal

abbrev pub invariant-loop-before : goal.invariant-loop-before
invariant-loop-before l = l.text.items ≡ l.initial.text.items ++ groups_text l.before
