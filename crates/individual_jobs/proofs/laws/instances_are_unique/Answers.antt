use Rattle.individual_jobs.proofs.Unique.{one_text_of_instances}
use Rattle.individual_jobs.proofs.laws.instances_are_unique.Goals as goal

pub returns : goal.returns
returns c = one_text_of_instances
