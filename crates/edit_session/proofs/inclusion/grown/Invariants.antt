use Rattle.std.proofs.Common.{◌≡◌, ℕ, ◌&&◌}
use Rattle.std.specs.Prelude.{nat_le}
use Rattle.std.specs.FinSet as set
use Rattle.edit_session.proofs.inclusion.grown.Given as goal

abbrev pub invariant-loop-below : goal.invariant-loop-below
invariant-loop-below l = record {
  limit : l.grown.limit ≡ l.limit;
  members : (k : ℕ) → set.contains l.grown.members k ≡ (set.contains l.set.members k && nat_le k l.below);
}
