use Rattle.calculus_specs.proofs.Depth.{normal_depth, negated_depth}
use Rattle.calculus_specs.proofs.shapes.normal_forms_are_not_deeper.Goals as goal

pub returns : goal.returns
returns c = λ d. (normal_depth d, negated_depth d)
