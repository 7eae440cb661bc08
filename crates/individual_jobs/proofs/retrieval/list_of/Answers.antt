use Rattle.std.proofs.lemmas.Result.{IfOk-weaker}
use Rattle.individual_jobs.proofs.Realized.{instances_listed}
use Rattle.individual_jobs.proofs.retrieval.list_of.Goals as goal

pub returns-clause-listed : goal.returns-clause-listed
returns-clause-listed c =
    IfOk-weaker c.instances-outcome.result _ _
    (λ found h. instances_listed c.args.ontology.now c.args.class.now found h)
    c.instances-outcome.ensures.found
