use Rattle.std.proofs.Common.{◌≡◌, ℕ, length, take}
use Rattle.std.specs.FinSet as set
use Rattle.pinpointing_jobs.specs.SetLists.{is_listed}
use Rattle.individual_jobs.specs.Reasons.{all_sets}
use Rattle.individual_jobs.proofs.writing.listed_axioms.Given as goal

abbrev pub invariant-loop-one : goal.invariant-loop-one
invariant-loop-one l = record {
  limit : l.listed.limit ≡ length l.ontology.axioms;
  members : (k : ℕ) → set.contains l.listed.members k ≡ is_listed (all_sets (take l.one-index l.reasons)) k;
}
