use Rattle.std.proofs.lemmas.Result.{err_from_is_err_and}
use Rattle.ofn_tree.specs.Lexemes.{end_line}
use Rattle.ofn_expressions.specs.Names.{predeclared}
use Rattle.ofn_reader.specs.Documents.{document_tests, start}
use Rattle.ofn_reader.proofs.Refused.{fails_at}
use Rattle.ofn_reader.proofs.documents.read_ontology.Goals as goal

pub returns-in_err-items-clause-refused : goal.returns-in_err-items-clause-refused
returns-in_err-items-clause-refused c =
    let p = err_from_is_err_and c.from_residual.result c.from_residual.ensures.1 in
    rw (p.1, p.2) (c.in_err-items.ensures.refused (document_tests predeclared (end_line c.args.text.now)) start)

pub returns-in_err-ontology-clause-refused : goal.returns-in_err-ontology-clause-refused
returns-in_err-ontology-clause-refused c =
    let p = err_from_is_err_and c.from_residual-in_err-ontology.result c.from_residual-in_err-ontology.ensures.1 in
    rw (p.1, p.2)
    (fails_at (document_tests predeclared) start c.args.text.now c.in_ok-items.items.items c.deref.result.now
    c.in_ok-items.end c.end_line.result c.in_err-ontology.field-0.0 c.in_ok-items.ensures.made c.deref.ensures.value
    c.end_line.ensures c.in_err-ontology.ensures.refused)
