use Rattle.std.proofs.Common.{◌≡◌, ◌≤◌, drop, min}
use Rattle.std.specs.Str.Parse.{digits_value_after}
use Rattle.ofn_expressions.proofs.numbers.capped_value.Given as goal

abbrev pub invariant-loop-byte : goal.invariant-loop-byte
invariant-loop-byte l = record {
  value : min (digits_value_after 10 l.number (drop l.byte-index l.text)) 101
      ≡ min (digits_value_after 10 0 l.text) 101;
  within : l.number ≤ 101;
}
