use Rattle.std.proofs.Common.{take}
use Rattle.row_cache.specs.Numbers.{Extends}
use Rattle.row_cache.specs.Theory.{named_parts}
use Rattle.absorption.specs.Rows.{AreRowsOf}
use Rattle.absorption.proofs.rows.rows_of.Given as goal

abbrev pub invariant-loop-number : goal.invariant-loop-number
invariant-loop-number l = record {
  rows : AreRowsOf l.concepts (named_parts l.ontology.axioms (take l.number-index l.numbers)) l.rows.items;
  kept : Extends l.fn.concepts l.concepts;
}
