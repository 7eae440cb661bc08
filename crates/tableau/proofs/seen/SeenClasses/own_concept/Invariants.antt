use Rattle.std.proofs.Common.{◌≡◌, ℕ, ◌<◌, false, get_or}
use Rattle.tableau.specs.Seen.{may_be_own}
use Rattle.tableau.proofs.seen.SeenClasses.own_concept.Given as goal

abbrev pub invariant-loop-own : goal.invariant-loop-own
invariant-loop-own g l =
    (k d : ℕ) → k < l.own-index → may_be_own l.self (get_or l.own-items k d) l.concept ≡ false
