use Rattle.std.proofs.lemmas.Result.{err_from_is_err_and}
use Rattle.ofn_reader.proofs.Refused.{addition_refused}
use Rattle.ofn_reader.proofs.additions.read_axiom.Goals as goal

pub returns-in_err-number-clause-refused : goal.returns-in_err-number-clause-refused
returns-in_err-number-clause-refused c =
    let p = err_from_is_err_and c.from_residual-in_err-number.result c.from_residual-in_err-number.ensures.1 in
    rw (p.1, p.2)
    (addition_refused c.args.ontology.now c.as_bytes-bytes.result.now c.args.text.now c.in_ok-items.items.items
    c.deref.result.now c.end_line.result c.args.context.now.prefixes c.prefixes.result.now c.in_err-number.field-0.0
    c.as_bytes-bytes.ensures.value c.in_ok-items.ensures.short c.in_ok-items.ensures.made c.deref.ensures.value
    c.end_line.ensures c.prefixes.ensures c.in_err-number.ensures.refused)
