use Rattle.std.proofs.Common.{◌≡◌, ◌+◌, drop, map}
use Rattle.certificate_lines.specs.Body.{malformed_in_body}
use Rattle.refutation_tree.specs.RefutationText.{refutation_line_read, refutation_body}
use Rattle.refutation_tree.proofs.reading.read_body.Given as goal

abbrev pub invariant-loop-index : goal.invariant-loop-index
invariant-loop-index l = record {
  body : refutation_body l.ontology l.refutation (map (λ w. w.now) (drop l.index l.lines))
      ≡ refutation_body l.ontology l.fn.refutation (map (λ w. w.now) l.lines);
  line : malformed_in_body (refutation_line_read l.ontology) (l.index + 4) l.refutation
      (map (λ w. w.now) (drop l.index l.lines))
      ≡ malformed_in_body (refutation_line_read l.ontology) 4 l.fn.refutation (map (λ w. w.now) l.lines);
}
