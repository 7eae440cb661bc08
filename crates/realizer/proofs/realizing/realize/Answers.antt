use Rattle.realizer.proofs.Chains.{realization_log}
use Rattle.realizer.proofs.realizing.realize.Goals as goal

pub returns-in_err-relation-clause-honest : goal.returns-in_err-relation-clause-honest
returns-in_err-relation-clause-honest c =
    realization_log c.args.ontology.now c.args.oracle.now.budget c.settle.new.oracle.log c.settle.ensures.honest
