use Rattle.std.proofs.Common.{sym, subst}
use Rattle.pinpointing_jobs.specs.OracleLists.{OracleLists}
use Rattle.pinpointing_specs.specs.LocalModule.{IsLocalModule}
use Rattle.realizer.specs.Instances.{instance_query}
use Rattle.individual_jobs.proofs.searching.explain_by.Goals as goal

pub explain_each-outcome-requires-clause-local_module : goal.explain_each-outcome-requires-clause-local_module
explain_each-outcome-requires-clause-local_module c a =
    subst (λ (x : OracleLists). IsLocalModule x.ontology.axioms (instance_query c.args.class.now a)
    c.args.local_module.now.members)
    (sym c.new-oracle.ensures) (c.requires.local_module a)
