use Rattle.std.proofs.Common.{◌∙◌}
use Rattle.std.proofs.lemmas.Result.{IfOk-weaker}
use Rattle.shq_nnf.specs.Shapes.{form_of}
use Rattle.refutation_rules.proofs.Renumbered.{next_parts, next_normal, next_tree}
use Rattle.refutation_rules.proofs.numbering.put_concept.Goals as goal

pub put_renumbered-requires-clause-parts : goal.put_renumbered-requires-clause-parts
put_renumbered-requires-clause-parts c =
    let a = c.args in
    next_parts a.refutation.now.shapes c.shape.ensures.kept.are_shapes a.concepts.now c.len-count.ensures.table
    a.numbers.now a.concept c.requires.numbers c.requires.high (form_of c.shape.result) c.shape.ensures.shape

pub put_renumbered-requires-clause-normal : goal.put_renumbered-requires-clause-normal
put_renumbered-requires-clause-normal c =
    let a = c.args in
    next_normal a.refutation.now.shapes c.shape.ensures.kept.are_shapes a.concepts.now c.len-count.ensures.table
    a.numbers.now a.concept c.requires.numbers c.requires.high (form_of c.shape.result) c.shape.ensures.shape

pub returns-clause-number : goal.returns-clause-number
returns-clause-number c =
    let a = c.args in
    IfOk-weaker c.put_renumbered.result _ _
    (λ n is. record {
      listed = is.listed;
      stands_for =
          is.stands_for
          ∙ next_tree a.refutation.now.shapes c.shape.ensures.kept.are_shapes a.concepts.now c.len-count.ensures.table
          a.numbers.now a.concept c.requires.numbers c.requires.high (form_of c.shape.result) c.shape.ensures.shape;
    })
    c.put_renumbered.ensures.number
