use Rattle.std.proofs.Common.{◌≡◌, ◌≤◌, ◌-◌, length, take, drop}
use Rattle.lane_sieve.specs.Words.{places}
use Rattle.lane_sieve.proofs.lanes.candidates.Given as goal

abbrev pub invariant-loop-at : goal.invariant-loop-at
invariant-loop-at l =
    record {
      within : l.at ≤ length l.firsts;
      few : l.found ≤ l.at;
      found_so_far : take l.found l.out ≡ places 0 l.print (take l.at l.table);
      rest : drop l.found l.out ≡ drop l.found l.fn.out;
    }

abbrev pub decreases-loop-at : goal.decreases-loop-at
decreases-loop-at l = length l.firsts - l.at
