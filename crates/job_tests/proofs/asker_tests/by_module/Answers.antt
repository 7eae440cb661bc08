use Rattle.std.proofs.Common.{ap, sym, subst}
use Rattle.shq_terms.specs.Listed.{Listed}
use Rattle.shq_oracle.specs.OracleLists.{OracleLists}
use Rattle.query_asker.specs.Told.{KeepsAnswers}
use Rattle.query_asker.proofs.Local.{modules_do}
use Rattle.job_tests.proofs.asker_tests.by_module.Goals as goal

pub within-asker-requires-clause-keeps : goal.within-asker-requires-clause-keeps
within-asker-requires-clause-keeps c =
    let q = c.args.query.now in
    let m = c.in_ok-module.module.members in
    subst (λ (l : Listed). KeepsAnswers l.axioms q m) (sym (ap (λ (x : OracleLists). x.ontology) c.new-oracle.ensures))
    (modules_do c.args.ontology.now.axioms q m c.in_ok-module.ensures.module)
