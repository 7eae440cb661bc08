use Rattle.std.proofs.Common.{◌∙◌, sym}
use Rattle.subsumption.proofs.Members.{none_before_first, none_before_end}
use Rattle.subsumption.proofs.class_sets.has_none_before.Goals as goal

pub returns-in-Some : goal.returns-in-Some
returns-in-Some c =
    none_before_first c.args.set.now c.numbers-numbers.ensures.within c.in-Some.number c.next.new.self
    (sym c.numbers-numbers.ensures.members ∙ c.in-Some.ensures.steps) c.args.class

pub returns-in-None : goal.returns-in-None
returns-in-None c =
    none_before_end c.args.set.now c.args.class c.numbers-numbers.ensures.within
    (sym c.numbers-numbers.ensures.members ∙ c.in-None.ensures.steps.0)
