use Rattle.std.proofs.Common.{ap, ◌∙◌}
use Rattle.shq_meaning.specs.Concept.{top, some_of}
use Rattle.calculus_specs.specs.Normal.{normal_form}
use Rattle.shq_nnf.specs.Numbers.{IsNumber}
use Rattle.shq_nnf.proofs.Pairs.{part_of_numbers}
use Rattle.shq_nnf.proofs.concepts.Concepts.domain_part.Goals as goal

pub returns-clause-part : goal.returns-clause-part
returns-clause-part c =
    let is = c.in_ok-first.ensures.number in
    let first : IsNumber c.quantified.new.self c.in_ok-first.first (some_of c.args.role top) =
    record { listed = is.listed; stands_for = is.stands_for ∙ ap (some_of c.args.role) c.top-any.ensures.stands_for } in
    part_of_numbers c.quantified.new.self c.form.new.self c.in_ok-part.part c.in_ok-first.first c.in_ok-second.second
    (some_of c.args.role top) (normal_form c.args.class.now) c.form.ensures.kept first c.in_ok-second.ensures.number
    c.in_ok-part.ensures
