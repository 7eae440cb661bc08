use Rattle.std.proofs.Common.{sym, subst}
use Rattle.audit_jobs.specs.Kept.{HasRefutation}
use Rattle.audit_jobs.proofs.Putting.{puts_justification}
use Rattle.audit_jobs.proofs.listing.put_justification.Goals as goal

pub take_refutation-refutation-requires : goal.take_refutation-refutation-requires
take_refutation-refutation-requires c =
    subst (HasRefutation c.args.refutations.now.items) (sym c.in_ok-set.ensures) c.requires.refuted

pub returns : goal.returns
returns c =
    puts_justification c.put_justification.result c.args.set.now c.in_ok-set.set c.args.audit.now
    c.put_justification.new.self c.args.refutations.now.items c.take_refutation-refutation.new.refutations.items
    c.take_refutation-refutation.result c.in_ok-set.ensures
    c.put_justification.ensures.put c.take_refutation-refutation.ensures
