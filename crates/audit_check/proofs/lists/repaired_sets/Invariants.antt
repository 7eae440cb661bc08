use Rattle.std.proofs.Common.{◌≡◌, ◌++◌, drop}
use Rattle.audit_file.specs.AuditLists.{repaired_sets}
use Rattle.audit_check.proofs.lists.repaired_sets.Given as goal

abbrev pub invariant-loop-repair : goal.invariant-loop-repair
invariant-loop-repair l = l.sets.items ++ repaired_sets (drop l.repair-index l.repairs) ≡ repaired_sets l.repairs
