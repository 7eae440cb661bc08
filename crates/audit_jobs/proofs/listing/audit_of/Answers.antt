use Rattle.std.proofs.Common.{sym, subst, List}
use Rattle.axiom_sets.specs.Sets.{Limited}
use Rattle.pinpointing_jobs.specs.Written.{AreFoundRepairs}
use Rattle.audit_jobs.specs.Listed.{HaveModels}
use Rattle.audit_jobs.proofs.Putting.{is_audit_of}
use Rattle.audit_jobs.proofs.listing.audit_of.Goals as goal

pub audit_with-requires-clause-modelled : goal.audit_with-requires-clause-modelled
audit_with-requires-clause-modelled c =
    let sets = c.in_ok-repairs.repairs.items in
    let found : AreFoundRepairs c.args.found.now sets =
    record { order = c.in_ok-repairs.ensures.order; repairs = c.in_ok-repairs.ensures.repairs } in
    subst (λ (xs : List Limited). HaveModels c.args.evidence.now.models.items xs) (sym c.deref-2.ensures.value)
    (c.requires.modelled sets found)

pub returns : goal.returns
returns c =
    let sets = c.in_ok-repairs.repairs.items in
    let found : AreFoundRepairs c.args.found.now sets =
    record { order = c.in_ok-repairs.ensures.order; repairs = c.in_ok-repairs.ensures.repairs } in
    is_audit_of c.args.found.now c.args.evidence.now sets c.deref.result.now c.deref-2.result.now c.audit_with.result
    c.deref.ensures.value c.deref-2.ensures.value found c.audit_with.ensures.justifications c.audit_with.ensures.repairs
