use Rattle.std.proofs.Common.{ℕ, ◌<◌, get_or}
use Rattle.axiom_sets.specs.Sets.{Limited}
use Rattle.repair_list.specs.Alone.{HasAlone}
use Rattle.repair_list.proofs.is_hit_beside.Given as goal

abbrev pub invariant-loop-place : goal.invariant-loop-place
invariant-loop-place l = (i : ℕ) (d : Limited) → i < l.place
    → ¬ HasAlone (get_or l.justifications i d) l.others.members l.number
