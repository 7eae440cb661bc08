use Rattle.std.specs.Prelude.{codes, length, option_map}
use Rattle.std.proofs.lemmas.Result.{err_from_is_err_and}
use Rattle.audit_file.specs.AuditLists.{last_repaired}
use Rattle.audit_file.specs.Following.{can_follow}
use Rattle.audit_file.specs.AuditText.{repair_read}
use Rattle.audit_file.proofs.Times.{count_of, counted_fault}
use Rattle.audit_file.proofs.reading.read_repairs.Goals as goal

pub returns-in_err-read_repair-clause-fault : goal.returns-in_err-read_repair-clause-fault
returns-in_err-read_repair-clause-fault c =
    let p =
    err_from_is_err_and c.from_residual-in_err-read_repair.result c.from_residual-in_err-read_repair.ensures.1 in
    let o = c.args.ontology.now in
    let audit = c.args.audit.now in
    let before = option_map (λ b. b.now) c.last_repaired.result in
    let counts =
    count_of (codes "repairs") c.axiom_count-axioms.result (length o.axioms) before (last_repaired audit) c.args.reader.now
    c.count.new.self c.in_ok-count.count c.axiom_count-axioms.ensures.count c.last_repaired.ensures
    c.in_ok-count.ensures.count in
    rw (p.1, p.2)
    (counted_fault (codes "repairs") (can_follow (length o.axioms) (last_repaired audit)) (repair_read o) audit
    c.args.reader.now c.count.new.self c.in_ok-count.count c.loop-place.place c.loop-place.audit c.loop-place.reader
    c.in_err-read_repair.field-0.0 counts c.loop-place.invariant.told c.loop-place-test.true
    c.in_err-read_repair.ensures.fault)
