use Rattle.std.proofs.Common.{◌∙◌, false}
use Rattle.shq_meaning.specs.Concept.{union, parts_of}
use Rattle.calculus_specs.specs.Normal.{normal_form}
use Rattle.shq_nnf.specs.Numbers.{IsNumber}
use Rattle.shq_nnf.proofs.Bounded.{union_form}
use Rattle.shq_nnf.proofs.Pairs.{part_of_numbers}
use Rattle.shq_nnf.proofs.concepts.Concepts.covering_part.Goals as goal

pub returns-clause-part : goal.returns-clause-part
returns-clause-part c =
    let is = c.in_ok-second.ensures.number in
    let all = normal_form (union (parts_of c.args.classes.now)) in
    let second : IsNumber c.joined_form.new.self c.in_ok-second.second all =
    record { listed = is.listed; stands_for = is.stands_for ∙ union_form false c.args.classes.now } in
    part_of_numbers c.form.new.self c.joined_form.new.self c.in_ok-part.part c.in_ok-first.first c.in_ok-second.second
    (normal_form c.args.class.now) all c.joined_form.ensures.kept c.in_ok-first.ensures.number second
    c.in_ok-part.ensures
