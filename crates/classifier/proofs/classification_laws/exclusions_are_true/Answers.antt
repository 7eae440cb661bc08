use Rattle.subsumption.proofs.Settled.{ruled_out_is_true}
use Rattle.classifier.proofs.classification_laws.exclusions_are_true.Goals as goal

pub returns : goal.returns
returns c = λ o budget log x y honest r. ruled_out_is_true o budget log honest x y r
