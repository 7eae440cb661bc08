use Rattle.std.proofs.Common.{◌≡◌, ℕ, ◌<◌, get_or}
use Rattle.refutation_tree.specs.RefutationLists.{RefutationLists}
use Rattle.audit_jobs.proofs.taking.place_of_refutation.Given as goal

abbrev pub invariant-loop-place : goal.invariant-loop-place
invariant-loop-place l = (k : ℕ) (d : RefutationLists) → k < l.place → ¬ ((get_or l.refutations k d).axioms ≡ l.axioms)
