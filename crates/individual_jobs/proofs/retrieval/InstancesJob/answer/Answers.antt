use Rattle.realizer.proofs.Unique.{questions_in_limit}
use Rattle.individual_jobs.proofs.retrieval.InstancesJob.answer.Goals as goal

pub list_of-requires-clause-in_limit : goal.list_of-requires-clause-in_limit
list_of-requires-clause-in_limit c a =
    questions_in_limit c.args.input.now.ontology c.args.input.now.query a c.requires.within
