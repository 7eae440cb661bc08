use Rattle.std.proofs.Common.{◌≡◌, ℕ}
use Rattle.assertion_box.specs.Places.{places_to, list_at}
use Rattle.assertion_box.proofs.place_lists.place_lists.Given as goal

abbrev pub invariant-loop-place : goal.invariant-loop-place
invariant-loop-place l = (a : ℕ) → list_at l.lists.items a ≡ places_to a l.facts l.place
