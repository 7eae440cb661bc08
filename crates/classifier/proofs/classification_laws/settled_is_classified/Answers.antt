use Rattle.classifier.proofs.Settled.{is_classified}
use Rattle.classifier.proofs.classification_laws.settled_is_classified.Goals as goal

pub returns : goal.returns
returns c = λ o budget log known ruled_out honest m settled. is_classified o budget log honest known ruled_out m settled
