use Rattle.std.proofs.Common.{◌≡◌, ℕ, true}
use Rattle.std.specs.FinSet as set
use Rattle.std.specs.List.{Contains}
use Rattle.audit_check.proofs.Growing.{AreLeft}
use Rattle.audit_check.proofs.choices.candidates_at.Given as goal

abbrev pub invariant-loop-number : goal.invariant-loop-number
invariant-loop-number l =
    record {
      limit : l.candidates.limit ≡ l.hit.limit;
      ahead : (u : ℕ) → Contains l.number-iterator u → set.contains l.hit.members u ≡ true;
      left : AreLeft l.sets l.hit l.initial.candidates.members l.number-iterator l.candidates.members;
    }
