-- The first malformed line of what is to be the text of a model. The line `model N` has the number 2.
use Rattle.std.specs.Prelude.{ℕ, List, Option}
use Rattle.certificate_lines.specs.Malformed.{TellsMalformed}
use Rattle.certificate_lines.specs.Body.{malformed_after_line, malformed_in_body}
use Rattle.shq_terms.specs.Listed.{Listed}
use Rattle.finite_model.specs.ModelText.{Body, model_line_read, size_in, empty_body, model_of}

-- of the lines after the first, where the body so far is given
abbrev pub malformed_in_model : Listed → Body → List (List ℕ) → Option ℕ
malformed_in_model o b ls = malformed_in_body (model_line_read o) 3 b ls

-- the first malformed line of what is to be a model, if there is one
abbrev pub malformed_model_line : Listed → List (List ℕ) → Option ℕ
malformed_model_line o ls = malformed_after_line 2 size_in (λ n. malformed_in_model o (empty_body n)) ls

-- the malformed line that is told is the first, and without one the lines are the text of a model
abbrev pub ModelsTellMalformed : Type 0
ModelsTellMalformed = (o : Listed) → TellsMalformed 2 (model_of o) (malformed_model_line o)
