use Rattle.std.proofs.Common.{◌≡◌, ◌+◌, drop, map}
use Rattle.certificate_lines.specs.Body.{malformed_in_body}
use Rattle.finite_model.specs.ModelText.{model_line_read, model_body}
use Rattle.finite_model.specs.BodyRead.{body_of}
use Rattle.finite_model.proofs.reading.read_body.Given as goal

abbrev pub invariant-loop-index : goal.invariant-loop-index
invariant-loop-index l = record {
  body : model_body l.ontology (body_of l.body) (map (λ w. w.now) (drop l.index l.lines))
      ≡ model_body l.ontology (body_of l.fn.body) (map (λ w. w.now) l.lines);
  line : malformed_in_body (model_line_read l.ontology) (l.index + 3) (body_of l.body)
      (map (λ w. w.now) (drop l.index l.lines))
      ≡ malformed_in_body (model_line_read l.ontology) 3 (body_of l.fn.body) (map (λ w. w.now) l.lines);
}
