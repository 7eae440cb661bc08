use Rattle.std.proofs.Common.{◌≡◌, ◌++◌, drop}
use Rattle.std.specs.List.{All}
use Rattle.axiom_sets.specs.Sets.{Limited, IsWithin}
use Rattle.audit_file.specs.AuditLists.{justified_sets}
use Rattle.audit_check.proofs.lists.justified_sets.Given as goal

abbrev pub invariant-loop-justification : goal.invariant-loop-justification
invariant-loop-justification l = record {
  told : l.sets.items ++ justified_sets (drop l.justification-index l.justifications) ≡ justified_sets l.justifications;
  within : All (λ (s : Limited). IsWithin s.limit s.members) l.sets.items;
}
