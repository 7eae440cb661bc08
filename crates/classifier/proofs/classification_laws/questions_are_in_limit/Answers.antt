use Rattle.subsumption.proofs.InLimit.{query_in_limit}
use Rattle.classifier.proofs.classification_laws.questions_are_in_limit.Goals as goal

pub returns : goal.returns
returns c = query_in_limit
