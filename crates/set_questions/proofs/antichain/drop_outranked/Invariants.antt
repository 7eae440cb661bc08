use Rattle.std.proofs.Common.{◌≡◌, ◌≤◌, vec_len}
use Rattle.std.specs.Vec.{vec_capacity}
use Rattle.set_questions.proofs.Dropped.{IsSwept}
use Rattle.set_questions.proofs.antichain.drop_outranked.Given as goal

abbrev pub invariant-loop-place : goal.invariant-loop-place
invariant-loop-place l = record {
  swept : IsSwept l.kind l.set l.initial.sets.items l.sets.items l.place;
  len : vec_len l.sets ≤ vec_len l.initial.sets;
  capacity : vec_capacity l.sets ≡ vec_capacity l.initial.sets;
}

abbrev pub decreases-loop-place : goal.decreases-loop-place
decreases-loop-place l = l.place
