use Rattle.std.proofs.Common.{◌≡◌, ◌-◌, ◌≤◌, length, take, true}
use Rattle.lane_sieve.specs.Words.{each_pair, is_apart}
use Rattle.lane_sieve.proofs.words.are_apart.Given as goal

abbrev pub invariant-loop-at : goal.invariant-loop-at
invariant-loop-at l =
    record { within : l.at ≤ length l.a; so_far : each_pair is_apart (take l.at l.a) (take l.at l.b) ≡ true }

abbrev pub decreases-loop-at : goal.decreases-loop-at
decreases-loop-at l = length l.a - l.at

abbrev pub invariant-loop-at-2 : goal.invariant-loop-at-2
invariant-loop-at-2 l =
    record { within : l.at ≤ length l.a; so_far : each_pair is_apart (take l.at l.a) (take l.at l.b) ≡ true }

abbrev pub decreases-loop-at-2 : goal.decreases-loop-at-2
decreases-loop-at-2 l = length l.a - l.at
