use Rattle.std.proofs.Common.{◌≡◌}
use Rattle.audit_jobs.proofs.Putting.{IsListingRepairs}
use Rattle.audit_jobs.proofs.listing.put_repairs.Given as goal

abbrev pub invariant-loop-place : goal.invariant-loop-place
invariant-loop-place l = record {
  listing : IsListingRepairs l.sets l.fn.models.items l.place l.audit.repairs l.models.items;
  justifications : l.audit.justifications ≡ l.fn.audit.justifications;
}
