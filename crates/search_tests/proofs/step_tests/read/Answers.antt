use Rattle.std.proofs.Common.{sym, subst}
use Rattle.search_rules.specs.Limits.{IsInLimit}
use Rattle.text_laws.proofs.InLimit.{queries_in_limit}
use Rattle.search_tests.proofs.step_tests.read.Goals as goal

pub returns : goal.returns
returns c =
    let x = c.in_ok-query.ensures.query in
    record {
      in_limit =
          subst (λ l. IsInLimit l c.in_ok-query.query) (sym x.3)
          (queries_in_limit _ c.in_ok-ontology.ontology c.in_ok-ontology.context _ c.in_ok-ontology.ensures.document _
          x.0 c.in_ok-query.query x.1);
    }
