use Rattle.std.proofs.Common.{◌≡◌, ◌||◌, ℕ, take}
use Rattle.std.specs.FinSet as sets_of
use Rattle.pinpointing_jobs.specs.SetLists.{is_listed}
use Rattle.pinpointing_jobs.proofs.axiom_lines.unite_with.Given as goal

abbrev pub invariant-loop-set : goal.invariant-loop-set
invariant-loop-set l = record {
  limit : l.union.limit ≡ l.fn.union.limit;
  members : (k : ℕ)
      → sets_of.contains l.union.members k
      ≡ (sets_of.contains l.fn.union.members k || is_listed (take l.set-index l.sets) k);
}
