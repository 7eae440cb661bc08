use Rattle.std.proofs.Common.{◌≡◌, length, take}
use Rattle.blocking.specs.Followed.{IsPrintOf}
use Rattle.blocking.proofs.print.print_of.Given as goal

abbrev pub invariant-loop-concept : goal.invariant-loop-concept
invariant-loop-concept l = record {
  words : length l.print ≡ 4;
  shows : IsPrintOf (take l.concept-index l.concepts) l.print;
}
