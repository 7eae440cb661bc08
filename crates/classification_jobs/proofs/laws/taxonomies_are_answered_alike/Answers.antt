use Rattle.classification_jobs.proofs.Alike.{answered_alike}
use Rattle.classification_jobs.proofs.laws.taxonomies_are_answered_alike.Goals as goal

pub returns : goal.returns
returns c = answered_alike
