use Rattle.std.proofs.Common.{◌≡◌}
use Rattle.audit_jobs.proofs.Putting.{IsListingJustifications}
use Rattle.audit_jobs.proofs.listing.put_justifications.Given as goal

abbrev pub invariant-loop-place : goal.invariant-loop-place
invariant-loop-place l = record {
  listing : IsListingJustifications l.sets l.fn.refutations.items l.place l.audit.justifications l.refutations.items;
  repairs : l.audit.repairs ≡ l.fn.audit.repairs;
}
