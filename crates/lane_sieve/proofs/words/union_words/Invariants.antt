use Rattle.std.proofs.Common.{◌≡◌, ◌-◌, ◌≤◌, length, take, drop}
use Rattle.std.specs.Prelude.{bit_or}
use Rattle.std.specs.Simd.Lanes.{zip2}
use Rattle.lane_sieve.proofs.words.union_words.Given as goal

abbrev pub invariant-loop-a : goal.invariant-loop-a
invariant-loop-a l = record {
  within : l.at ≤ length l.a;
  so_far : take l.at l.a ≡ zip2 bit_or (take l.at l.fn.a) (take l.at l.b);
  rest : drop l.at l.a ≡ drop l.at l.fn.a;
}

abbrev pub decreases-loop-a : goal.decreases-loop-a
decreases-loop-a l = length l.a - l.at

abbrev pub invariant-loop-at : goal.invariant-loop-at
invariant-loop-at l = record {
  within : l.at ≤ length l.a;
  so_far : take l.at l.a ≡ zip2 bit_or (take l.at l.fn.a) (take l.at l.b);
  rest : drop l.at l.a ≡ drop l.at l.fn.a;
}

abbrev pub decreases-loop-at : goal.decreases-loop-at
decreases-loop-at l = length l.a - l.at
