use Rattle.std.proofs.Common.{◌≡◌, ◌*◌, ◌≤◌, length}
use Rattle.lane_sieve.specs.Sets.{number_set, members_below}
use Rattle.lane_sieve.proofs.members.count_numbers.Given as goal

abbrev pub invariant-loop-word : goal.invariant-loop-word
invariant-loop-word l = record {
  counted : l.count ≡ length (members_below (number_set l.words) (64 * l.word-index));
  small : l.count ≤ 64 * l.word-index;
}
