use Rattle.std.proofs.Common.{ℕ, ◌<◌, get_or}
use Rattle.pinpointing_specs.specs.Sets.{Limited}
use Rattle.set_questions.specs.Kept.{Outranks}
use Rattle.set_questions.proofs.antichain.is_outranked.Given as goal

abbrev pub invariant-loop-place : goal.invariant-loop-place
invariant-loop-place l = (i : ℕ) (d : Limited) → i < l.place
    → ¬ Outranks l.kind (get_or l.sets i d).members l.set.members
