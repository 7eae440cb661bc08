use Rattle.std.proofs.Common.{ℕ, ◌<◌, ◌-◌, ◌^◌}
use Rattle.row_cache.specs.Numbers.{Extends}
use Rattle.row_cache.specs.Steps.{is_transitive}
use Rattle.row_cache.specs.Paths.{is_below}
use Rattle.absorption.specs.Needed.{HasNeeded}
use Rattle.absorption.proofs.closing.close.Given as goal

abbrev pub invariant-loop-next : goal.invariant-loop-next
invariant-loop-next l = record {
  needed : (c : ℕ) → c < l.next → HasNeeded (is_below l.roles) (is_transitive l.roles) l.concepts c;
  kept : Extends l.fn.concepts l.concepts;
}

abbrev pub decreases-loop-next : goal.decreases-loop-next
decreases-loop-next l = 2 ^ 32 - l.next
