use Rattle.std.proofs.Common.{ℕ, ◌<◌}
use Rattle.std.specs.Prelude.{slice_index_or}
use Rattle.lane_sieve.specs.Sets.{DoMeet}
use Rattle.pinpointing_specs.specs.Sets.{Limited}
use Rattle.set_questions.proofs.places.place_apart.Given as goal

abbrev pub invariant-loop-place : goal.invariant-loop-place
invariant-loop-place l = (k : ℕ) (d : Limited) → k < l.place → DoMeet (slice_index_or l.sets k d).members l.set.members
