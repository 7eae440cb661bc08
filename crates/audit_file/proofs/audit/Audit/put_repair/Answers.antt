use Rattle.std.proofs.Common.{rules, sym, subst, List}
use Rattle.audit_file.specs.AuditLists.{repaired_sets}
use Rattle.audit_file.specs.declared.entries.Repair.{Repair}
use Rattle.pinpointing_specs.specs.Order.{IsAscending}
use Rattle.audit_file.proofs.Ordered.{put_ascends}
use Rattle.audit_file.proofs.audit.Audit.put_repair.Goals as goal

pub invariant_of-self-2 : goal.invariant_of-self-2
invariant_of-self-2 c =
    let rs = c.self.inside.repairs.items in
    let more =
    put_ascends (λ (r : Repair). r.set) rs (record { set = c.args.set; model = c.args.model }) c.self.invariant.repairs
    (search rules) in
    record {
      justifications = c.self.invariant.justifications;
      repairs = subst (λ (l : List Repair). IsAscending (repaired_sets l)) (sym c.in_ok-push.ensures.items) more;
    }
