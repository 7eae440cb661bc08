use Rattle.std.proofs.Common.{ℕ, ◌<◌, ◌≤◌, length, get_or}
use Rattle.edit_session.specs.Places.{AnswersAt}
use Rattle.edit_session.proofs.noted_places.latest_of.Given as goal

abbrev pub invariant-loop-left : goal.invariant-loop-left
invariant-loop-left l = record {
  within : l.left ≤ length l.places;
  none : (k : ℕ) → l.left ≤ k → k < length l.places → ¬ AnswersAt l.log l.live l.query (get_or l.places k 0);
}

abbrev pub decreases-loop-left : goal.decreases-loop-left
decreases-loop-left l = l.left
