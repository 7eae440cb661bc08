use Rattle.std.proofs.Common.{take}
use Rattle.edit_session.specs.Places.{KeepsOthers}
use Rattle.edit_session.proofs.noted_places.without_yes.Given as goal

abbrev pub invariant-loop-place : goal.invariant-loop-place
invariant-loop-place l = KeepsOthers l.log l.query (take l.place-index l.places) l.kept
