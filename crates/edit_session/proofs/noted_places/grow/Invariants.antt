use Rattle.std.proofs.Common.{◌≤◌, length}
use Rattle.edit_session.specs.Places.{SamePlaces}
use Rattle.edit_session.proofs.noted_places.grow.Given as goal

abbrev pub invariant-loop : goal.invariant-loop
invariant-loop l = record {
  long : l.counter ≤ length l.places.items;
  same : SamePlaces l.fn.places.items l.places.items;
}
