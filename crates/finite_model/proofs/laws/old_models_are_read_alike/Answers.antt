use Rattle.finite_model.proofs.Unplaced.{line_read_alike, text_places_none}
use Rattle.finite_model.proofs.laws.old_models_are_read_alike.Goals as goal

pub returns : goal.returns
returns c = λ o unlisted. (line_read_alike o unlisted, text_places_none o unlisted)
