use Rattle.std.proofs.Common.{◌≡◌, ℕ, ◌+◌, ◌<◌, ◌^◌, List, length, Result, Ok, Err, sym, subst, arith}
use Rattle.std.specs.Prelude.{IfOk, IfErr}
use Rattle.std.specs.Result.{result_map_both}
use Rattle.std.proofs.lemmas.List.{length-map}
use Rattle.certificate_lines.specs.Lines.{bytes_of}
use Rattle.certificate_lines.specs.declared.fault.LineFault.{LineFault}
use Rattle.shq_terms.specs.Listed.{Listed}
use Rattle.audit_file.specs.AuditLists.{AuditLists}
use Rattle.audit_file.specs.AuditText.{Ahead, audit_read, audit_in, IsFaultBy}
use Rattle.audit_file.specs.Malformed.{IsFirstFault}
use Rattle.audit_file.specs.Fitting.{Fits}
use Rattle.audit_file.proofs.AuditFirst.{first_fault}
use Rattle.audit_file.proofs.Fitting.{audit_fits}
use Rattle.audit_file.proofs.Times.{whole_ok}
use Rattle.audit_file.proofs.reading.read_text.Goals as goal

pub returns-clause-audit : goal.returns-clause-audit
returns-clause-audit c =
    let o = c.args.ontology.now in
    let whole =
    whole_ok (audit_read o c.new-audit.result c.new-reader.result) c.read_audit-end.new.audit c.read_audit-end.result
    c.audit_of.result c.audit_of.ensures c.read_audit-end.ensures.read in
    subst (λ (x : AuditLists). IfOk c.audit_of.result
    (λ a. audit_read o x (record { number = 1; lines = bytes_of c.args.lines.now }) ≡ Ok a))
    c.new-audit.ensures
    (subst (λ (x : Ahead). IfOk c.audit_of.result (λ a. audit_read o c.new-audit.result x ≡ Ok a)) c.new-reader.ensures
    whole)

fits : (o : Listed) (ls : List (List ℕ)) (n : ℕ) (r : Result AuditLists LineFault) → length o.axioms ≡ length o.axioms
    → length ls ≡ n → ((a : AuditLists) → audit_in o ls ≡ Ok a → Fits o (length ls) a)
    → IfOk r (λ a. audit_in o ls ≡ Ok a) → IfOk r (Fits o n)
fits o ls n (Ok a) same long law h = subst (λ m. Fits o m a) long (law a h)
fits o ls n (Err e) same long law h = tt

pub returns-clause-fits : goal.returns-clause-fits
returns-clause-fits c =
    let o = c.args.ontology.now in
    let ls = bytes_of c.args.lines.now in
    fits o ls (length c.args.lines.now) c.audit_of.result (λ i. length o.axioms)
    (length-map c.args.lines.now (λ l. l.now))
    (audit_fits o (omega (arith, c.axiom_count-count.ensures.count, c.axiom_count-count.ensures.within)) ls)
    (returns-clause-audit c)

first : (o : Listed) (ls : List (List ℕ)) (a : AuditLists) (end : Result (Unit {0}) LineFault)
    (out : Result AuditLists LineFault)
    → out ≡ result_map_both (λ u. a) (λ e. e) end → length o.axioms + 1 < 2 ^ 32
    → IfErr end (IsFaultBy (audit_in o ls)) → IfErr out (IsFirstFault o ls)
first o ls a (Ok u) out is few fault =
    subst (λ (r : Result AuditLists LineFault). IfErr r (IsFirstFault o ls)) (sym is) tt
first o ls a (Err e) out is few fault =
    subst (λ (r : Result AuditLists LineFault). IfErr r (IsFirstFault o ls)) (sym is) (first_fault o ls e few fault)

pub returns-clause-first : goal.returns-clause-first
returns-clause-first c =
    let o = c.args.ontology.now in
    let end = c.read_audit-end.result in
    let at_start : IfErr end (IsFaultBy (audit_read o c.new-audit.result (record {
      number = 1;
      lines = bytes_of c.args.lines.now;
    }))) =
    subst (λ (x : Ahead). IfErr end (IsFaultBy (audit_read o c.new-audit.result x))) c.new-reader.ensures
    c.read_audit-end.ensures.fault in
    first o (bytes_of c.args.lines.now) c.read_audit-end.new.audit end c.audit_of.result c.audit_of.ensures
    (omega (arith, c.axiom_count-count.ensures.count, c.axiom_count-count.ensures.within))
    (subst (λ (x : AuditLists). IfErr end (IsFaultBy (audit_read o x (record {
      number = 1;
      lines = bytes_of c.args.lines.now;
    }))))
    c.new-audit.ensures at_start)
