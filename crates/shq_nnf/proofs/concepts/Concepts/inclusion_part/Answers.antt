use Rattle.std.proofs.Common.{}
use Rattle.calculus_specs.specs.Normal.{normal_form}
use Rattle.shq_nnf.specs.Bounds.{signed_form}
use Rattle.shq_nnf.proofs.Pairs.{part_of_numbers}
use Rattle.shq_nnf.proofs.concepts.Concepts.inclusion_part.Goals as goal

pub returns-clause-part : goal.returns-clause-part
returns-clause-part c =
    part_of_numbers c.form.new.self c.form-2.new.self c.in_ok-part.part c.in_ok-first.first c.in_ok-second.second
    (normal_form c.args.left.now) (signed_form c.args.negated c.args.right.now)
    c.form-2.ensures.kept c.in_ok-first.ensures.number c.in_ok-second.ensures.number c.in_ok-part.ensures
