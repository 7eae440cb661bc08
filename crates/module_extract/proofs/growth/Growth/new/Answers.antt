use Rattle.std.proofs.Common.{◌∙◌, ap}
use Rattle.axiom_sets.specs.Sets.{Limited}
use Rattle.module_extract.proofs.Joined.{starts}
use Rattle.module_extract.proofs.growth.Growth.new.Goals as goal

pub returns-clause-growing : goal.returns-clause-growing
returns-clause-growing c =
    starts c.args.axioms.now c.args.query.now c.args.classes c.args.roles c.in_ok-new.field-0 c.take_all.new.self
    c.new-2.result.items c.deref.result.now c.in_ok-new.ensures
    (c.deref.ensures.value ∙ c.in_ok-names.ensures) c.in_ok-take_all.ensures.taken
    (ap (λ (s : Limited). s.members) c.in_ok-take_all.ensures.members ∙ c.in_ok-empty.ensures.members) c.requires.listed
