use Rattle.std.proofs.Common.{take}
use Rattle.step_lines.specs.Serving.{HoldWithin}
use Rattle.search_state.specs.Marked.{marked_in}
use Rattle.search_state.proofs.resting.marks_of_all.Given as goal

abbrev pub invariant-loop-ground : goal.invariant-loop-ground
invariant-loop-ground g l = HoldWithin l.used (marked_in l.tree.entries) (take l.ground-index l.grounds)
