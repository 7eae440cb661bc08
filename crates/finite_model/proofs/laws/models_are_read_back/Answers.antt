use Rattle.finite_model.proofs.TextBack.{model_read_back}
use Rattle.finite_model.proofs.laws.models_are_read_back.Goals as goal

pub returns : goal.returns
returns c = model_read_back
