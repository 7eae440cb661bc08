use Rattle.std.proofs.Common.{◌≡◌, ℕ, ◌<◌, ◌≤◌, get_or}
use Rattle.std.specs.Prelude.{bit_and}
use Rattle.std.specs.Int.{bit_not, w64}
use Rattle.lane_sieve.proofs.pairs.subtract.Given as goal

abbrev pub invariant-loop-place : goal.invariant-loop-place
invariant-loop-place l = record {
  done : (i : ℕ) → i < l.place → get_or l.xs i 0 ≡ bit_and (get_or l.fn.xs i 0) (bit_not w64 (get_or l.ys i 0));
  ahead : (i : ℕ) → l.place ≤ i → get_or l.xs i 0 ≡ get_or l.fn.xs i 0;
}
