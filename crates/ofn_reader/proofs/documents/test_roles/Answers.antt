use Rattle.ofn_reader.proofs.Simple.{line_judged}
use Rattle.ofn_reader.proofs.documents.test_roles.Goals as goal

pub returns : goal.returns
returns c =
    λ s. line_judged c.args.ontology.now.axioms s c.in_ok-line.line c.refuse_line.result c.in_ok-line.ensures
    c.refuse_line.ensures.passed c.refuse_line.ensures.refused
