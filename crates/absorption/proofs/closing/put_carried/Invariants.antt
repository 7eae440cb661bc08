use Rattle.std.proofs.Common.{take}
use Rattle.row_cache.specs.Numbers.{Extends}
use Rattle.row_cache.specs.Paths.{is_below}
use Rattle.absorption.specs.Needed.{AreCarried}
use Rattle.absorption.proofs.closing.put_carried.Given as goal

abbrev pub invariant-loop-lower : goal.invariant-loop-lower
invariant-loop-lower l = record {
  carried : AreCarried (is_below l.roles) l.concepts (take l.lower-index l.transitive) l.role l.filler;
  kept : Extends l.fn.concepts l.concepts;
}
