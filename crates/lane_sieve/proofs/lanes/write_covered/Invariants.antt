use Rattle.std.proofs.Common.{◌≡◌, ◌≤◌, take, drop}
use Rattle.lane_sieve.specs.Words.{places}
use Rattle.lane_sieve.proofs.lanes.write_covered.Given as goal

abbrev pub invariant-loop-place : goal.invariant-loop-place
invariant-loop-place l =
    record {
      within : l.found ≤ l.place;
      more : l.fn.found ≤ l.found;
      found_so_far : take l.found l.out ≡ places 0 l.print (take l.place l.table);
      rest : drop l.found l.out ≡ drop l.found l.fn.out;
    }
