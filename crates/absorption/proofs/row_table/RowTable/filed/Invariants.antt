use Rattle.std.proofs.Common.{◌≡◌, ◌++◌}
use Rattle.std.specs.Prelude.{All}
use Rattle.absorption.specs.Places.{HasPlace, IsFiled}
use Rattle.absorption.proofs.row_table.RowTable.filed.Given as goal

abbrev pub invariant-loop-row : goal.invariant-loop-row
invariant-loop-row l = record {
  filed : IsFiled l.concepts l.yielded l.table;
  places : All (HasPlace l.concepts) l.row-iterator.rest.items;
  split : l.yielded ++ l.row-iterator.rest.items ≡ l.fn.rows.items;
}
