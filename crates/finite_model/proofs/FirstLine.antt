-- The first malformed line.
use Rattle.std.proofs.Common.{[], ◌∷◌, refl}
use Rattle.std.specs.Prelude.{codes}
use Rattle.certificate_lines.specs.Malformed.{BeginsText, TellsMalformed}
use Rattle.certificate_lines.specs.Body.{malformed_in_body}
use Rattle.certificate_lines.proofs.FirstMalformed.{body_tells, line_tells}
use Rattle.shq_terms.specs.Listed.{Listed}
use Rattle.finite_model.specs.ModelText.{model_line_read, model_body, size_in, empty_body, model_of}
use Rattle.finite_model.specs.Malformed.{malformed_model_line}

pub some_model : (o : Listed) → BeginsText (model_of o) []
some_model o =
    (codes "model 1" ∷ codes "end" ∷ [], record { size = 1; members = []; links = []; individuals = [] }, refl)

pub model_tells : (o : Listed) → TellsMalformed 2 (model_of o) (malformed_model_line o)
model_tells o =
    line_tells size_in (λ n. model_body o (empty_body n)) (λ n. malformed_in_body (model_line_read o) 3 (empty_body n))
    2 (some_model o) (λ n. body_tells (model_line_read o) (λ b. b.model) 3 (empty_body n))
