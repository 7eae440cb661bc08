use Rattle.std.proofs.Common.{◌+◌, ◌<◌, ◌++◌, ◌∷◌, [], ap, ◌∙◌, drop, length, List, ℕ, arith}
use Rattle.certificate_lines.specs.Written.{text_of}
use Rattle.shq_nnf.specs.Shape.{Shape}
use Rattle.refutation_tree.specs.Written.{concept_line, concept_lines}
use Rattle.refutation_tree.proofs.ConceptLines.{listed_first, line_first}
use Rattle.refutation_tree.proofs.refutation.Refutation.push_concepts.Goals as goal

pub loop-index-preserved : goal.loop-index-preserved
loop-index-preserved c =
    let o = c.args.ontology.now in
    let shapes = c.args.self.now.shapes in
    let i = c.loop-index.index in
    let before = c.loop-index.text.items in
    let lt : i < length shapes = omega (arith, c.loop-index-test.true, c.shape_count-index-end.ensures.count) in
    record {
      text = ap (λ (t : List ℕ). t ++ text_of (concept_lines o (i + 1 + 1) (drop (i + 1) shapes)))
          (c.in_ok-push_concept.ensures
          ∙ ap (λ (s : Shape). before ++ (concept_line o (i + 1) s ++ 10 ∷ [])) c.shape.ensures.shape)
          ∙ line_first o shapes i lt before ∙ c.loop-index.invariant.text;
      listed = (listed_first o shapes i lt c.loop-index.invariant.listed).1;
    }
