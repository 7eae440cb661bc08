use Rattle.std.proofs.Common.{◌∙◌, sym, ap}
use Rattle.calculus_specs.specs.Tree.{tree_of}
use Rattle.calculus_specs.specs.Valid.{concept_at}
use Rattle.refutation_rules.specs.Outcomes.{known_of}
use Rattle.refutation_rules.proofs.Held.{at_held}
use Rattle.refutation_rules.proofs.rules.Rules.shape_in_label.Goals as goal

pub returns : goal.returns
returns c =
    let f = c.args.self.now in
    let at = c.in-Some.ensures in
    record {
      parts_below = c.shape.ensures.parts;
      normal = c.shape.ensures.normal;
      goes_on = λ answer.
          at_held (known_of f.table c.args.branch.now) c.args.node (concept_at f.shapes c.args.concept) answer
          (tree_of f.table c.in-Some.number) at.0 (sym c.is_in.ensures ∙ c.if-not-is_in.false)
          ∙ ap answer c.shape.ensures.tree;
    }
