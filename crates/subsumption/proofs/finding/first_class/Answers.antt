use Rattle.std.proofs.Common.{◌∙◌, sym}
use Rattle.subsumption.proofs.Firsts.{first_member, first_is_one, none_is_one}
use Rattle.subsumption.proofs.finding.first_class.Goals as goal

pub overflow_sub-result : goal.overflow_sub-result
overflow_sub-result c =
    (first_member c.args.classes.now c.numbers-numbers.ensures.within c.in-Some.number c.next.new.self
    (sym c.numbers-numbers.ensures.members ∙ c.in-Some.ensures.steps)).1

pub returns-in-Some : goal.returns-in-Some
returns-in-Some c =
    first_is_one c.args.classes.now c.numbers-numbers.ensures.within c.in-Some.number c.next.new.self
    (sym c.numbers-numbers.ensures.members ∙ c.in-Some.ensures.steps)

pub returns-in-None : goal.returns-in-None
returns-in-None c =
    none_is_one c.args.classes.now c.numbers-numbers.ensures.within
    (sym c.numbers-numbers.ensures.members ∙ c.in-None.ensures.steps.0)
