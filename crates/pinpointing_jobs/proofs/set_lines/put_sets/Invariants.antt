use Rattle.std.proofs.Common.{◌≡◌, ◌++◌, drop}
use Rattle.pinpointing_jobs.specs.SetLists.{set_lines}
use Rattle.pinpointing_jobs.proofs.set_lines.put_sets.Given as goal

abbrev pub invariant-loop-set : goal.invariant-loop-set
invariant-loop-set l = l.out.items ++ set_lines (drop l.set-index l.sets) ≡ l.fn.out.items ++ set_lines l.sets
