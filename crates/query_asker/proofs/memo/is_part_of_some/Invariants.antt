use Rattle.std.proofs.Common.{ℕ, ◌<◌, get_or}
use Rattle.lane_sieve.specs.Sets.{IsPart}
use Rattle.axiom_sets.specs.Sets.{Limited}
use Rattle.query_asker.proofs.memo.is_part_of_some.Given as goal

abbrev pub invariant-loop-place : goal.invariant-loop-place
invariant-loop-place l = (i : ℕ) (d : Limited) → i < l.place → ¬ IsPart l.set.members (get_or l.sets i d).members
