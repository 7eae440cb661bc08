use Rattle.std.proofs.Common.{ap, ◌∙◌}
use Rattle.std.proofs.lemmas.Result.{err_from_is_err_and}
use Rattle.shq_terms.specs.Listed.{Listed}
use Rattle.ofn_expressions.specs.Names.{predeclared}
use Rattle.ofn_reader.proofs.Simple.{document_walk}
use Rattle.ofn_reader.proofs.documents.read_from_items.Goals as goal

pub returns-in_err-test_roles-clause-refused : goal.returns-in_err-test_roles-clause-refused
returns-in_err-test_roles-clause-refused c =
    let p = err_from_is_err_and c.from_residual-in_err-test_roles.result c.from_residual-in_err-test_roles.ensures.1 in
    let d = c.in_ok-ontology.ensures.document in
    rw (p.1, p.2)
    (λ known. document_walk predeclared c.args.end_line c.args.items.now d.0 c.in_ok-ontology.ontology.axioms d.1
    (ap (λ (l : Listed). l.axioms) d.2)
    ∙ c.in_err-test_roles.ensures d.0 known)

pub returns-clause-document : goal.returns-clause-document
returns-clause-document c =
    let d = c.in_ok-ontology.ensures.document in (
      d.0,
      document_walk predeclared c.args.end_line c.args.items.now d.0 c.in_ok-ontology.ontology.axioms d.1
          (ap (λ (l : Listed). l.axioms) d.2)
          ∙ c.in_ok-test_roles.ensures d.0,
      d.2,
      d.3,
    )
