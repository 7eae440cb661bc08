use Rattle.std.proofs.Common.{◌≡◌, ◌+◌, drop, map}
use Rattle.audit_file.specs.AuditText.{block_len}
use Rattle.audit_file.proofs.reader.block_len.Given as goal

abbrev pub invariant-loop-index : goal.invariant-loop-index
invariant-loop-index l =
    block_len (map (λ w. w.now) l.lines) ≡ l.index + block_len (map (λ w. w.now) (drop l.index l.lines))
