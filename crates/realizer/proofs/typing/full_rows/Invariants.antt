use Rattle.std.proofs.Common.{◌≡◌, ℕ, ◌<◌, true}
use Rattle.realizer.specs.TypeRows.{AreTypeRows, typed_by}
use Rattle.realizer.proofs.typing.full_rows.Given as goal

abbrev pub invariant-loop : goal.invariant-loop
invariant-loop l = record {
  rows : AreTypeRows l.classes l.counter l.rows.items;
  full : (a x : ℕ) → a < l.counter → x < l.classes → typed_by l.rows.items a x ≡ true;
}
