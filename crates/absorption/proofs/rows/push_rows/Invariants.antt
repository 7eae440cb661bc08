use Rattle.std.proofs.Common.{◌++◌, List, take}
use Rattle.calculus_specs.specs.Rows.{NumberedPart}
use Rattle.row_cache.specs.Numbers.{Extends}
use Rattle.row_cache.specs.Parts.{axiom_parts}
use Rattle.row_cache.specs.Theory.{numbered_parts}
use Rattle.absorption.specs.Rows.{AreRowsOf}
use Rattle.absorption.proofs.rows.push_rows.Given as goal

abbrev pub invariant-loop-place : goal.invariant-loop-place
invariant-loop-place l = record {
  added : (ns : List NumberedPart) → AreRowsOf l.fn.concepts ns l.fn.rows.items
      → AreRowsOf l.concepts (ns ++ take l.place (numbered_parts l.number 1 (axiom_parts l.«axiom»))) l.rows.items;
  kept : Extends l.fn.concepts l.concepts;
}
