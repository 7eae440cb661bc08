use Rattle.repair_list.proofs.Alone.{up_to}
use Rattle.repair_list.proofs.is_hit_alone.Given as goal

abbrev pub invariant-loop-place : goal.invariant-loop-place
invariant-loop-place l = up_to l.justifications l.set l.place
