use Rattle.std.proofs.Common.{rules, sym, subst, List}
use Rattle.audit_file.specs.AuditLists.{justified_sets}
use Rattle.audit_file.specs.declared.entries.Justification.{Justification}
use Rattle.pinpointing_specs.specs.Order.{IsAscending}
use Rattle.audit_file.proofs.Ordered.{put_ascends}
use Rattle.audit_file.proofs.audit.Audit.put_justification.Goals as goal

pub invariant_of-self-2 : goal.invariant_of-self-2
invariant_of-self-2 c =
    let js = c.self.inside.justifications.items in
    let more =
    put_ascends (λ (j : Justification). j.set) js (record { set = c.args.set; refutation = c.args.refutation })
    c.self.invariant.justifications (search rules) in
    record {
      justifications =
          subst (λ (l : List Justification). IsAscending (justified_sets l)) (sym c.in_ok-push.ensures.items) more;
      repairs = c.self.invariant.repairs;
    }
