use Rattle.std.proofs.Common.{ap, ◌∙◌}
use Rattle.shq_meaning.specs.Concept.{top, at_most}
use Rattle.shq_nnf.specs.Numbers.{IsNumber}
use Rattle.shq_nnf.proofs.Pairs.{part_of_numbers}
use Rattle.shq_nnf.proofs.concepts.Concepts.functional_part.Goals as goal

pub returns-clause-part : goal.returns-clause-part
returns-clause-part c =
    let any : IsNumber c.args.self.now c.top-any.result top =
    record { listed = c.top-any.ensures.listed; stands_for = c.top-any.ensures.stands_for } in
    let is = c.in_ok-second.ensures.number in
    let second : IsNumber c.at_most.new.self c.in_ok-second.second (at_most 1 c.args.role top) =
    record { listed = is.listed; stands_for = is.stands_for ∙ ap (at_most 1 c.args.role) any.stands_for } in
    part_of_numbers c.args.self.now c.at_most.new.self c.in_ok-part.part c.top-any.result c.in_ok-second.second top
    (at_most 1 c.args.role top) c.at_most.ensures.kept any second c.in_ok-part.ensures
