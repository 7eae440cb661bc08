use Rattle.std.proofs.Common.{◌≡◌}
use Rattle.edit_session.specs.Places.{StaysFiled}
use Rattle.edit_session.proofs.noted_places.NotedPlaces.see_all.Given as goal

abbrev pub invariant-loop-place : goal.invariant-loop-place
invariant-loop-place l = record {
  at : l.self.seen ≡ l._place;
  filed : StaysFiled l.fn.self l.self l.log;
}
