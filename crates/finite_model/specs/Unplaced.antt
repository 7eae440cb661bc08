-- The text of a model where no individual is listed.
use Rattle.std.specs.Prelude.{◌≡◌, ℕ, Bool, not, IsTrue, List, [], Option, Some, if◌then◌else◌}
use Rattle.std.specs.List.{list_all}
use Rattle.certificate_lines.specs.Lines.{words}
use Rattle.shq_terms.specs.Listed.{Listed}
use Rattle.finite_model.specs.ModelLists.{ModelLists}
use Rattle.finite_model.specs.ModelText.{Body, is_role_line, is_individual_line, class_read, role_read}
use Rattle.finite_model.specs.ModelText.{model_words_read, model_of}

-- the line does not begin with the word `individual`
abbrev pub places_none : List ℕ → Bool
places_none line = not (is_individual_line (words line))

-- a line is read as that of a role, or else of a class
abbrev pub role_or_class_read : Listed → Body → List (List ℕ) → Option Body
role_or_class_read o b ws = if is_role_line ws then role_read o b ws else class_read o b ws

-- Where no individual is listed, each line between the first and the last is read as that of a role or of a class, and
-- no text with a line of an individual is the text of a model. So the format is what it was before there were
-- individuals: the same texts stand for models, and the same line of another one is malformed.
abbrev pub OldModelsAreReadAlike : Type 0
OldModelsAreReadAlike = (o : Listed) → o.individuals ≡ []
    → ((b : Body) (ws : List (List ℕ)) → model_words_read o b ws ≡ role_or_class_read o b ws)
    × ((ls : List (List ℕ)) (k : ModelLists) → model_of o ls ≡ Some k → IsTrue (list_all places_none ls))
