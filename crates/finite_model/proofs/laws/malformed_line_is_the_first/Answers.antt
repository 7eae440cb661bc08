use Rattle.finite_model.proofs.FirstLine.{model_tells}
use Rattle.finite_model.proofs.laws.malformed_line_is_the_first.Goals as goal

pub returns : goal.returns
returns c = model_tells
