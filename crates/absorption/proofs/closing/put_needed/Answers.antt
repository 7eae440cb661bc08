use Rattle.std.proofs.Common.{◌≡◌, ap, sym, ◌∙◌}
use Rattle.std.proofs.lemmas.Result.{on_ok_weaker}
use Rattle.calculus_specs.specs.Shape.{shape_of}
use Rattle.row_cache.specs.Steps.{is_transitive}
use Rattle.row_cache.specs.Paths.{is_below}
use Rattle.absorption.specs.declared.closing.Need.TheVariants.{Complement, Carries}
use Rattle.absorption.specs.Needed.{need_of_shape}
use Rattle.absorption.proofs.Carried.{complement_needed, carried_needed, filler_of_need}
use Rattle.absorption.proofs.closing.put_needed.Goals as goal

pub returns-in_ok-negated-in-Complement-clause-needed : goal.returns-in_ok-negated-in-Complement-clause-needed
returns-in_ok-negated-in-Complement-clause-needed c =
    let a = c.args.concepts.now in
    let k = c.args.number in
    let need : Complement c.in-Complement.filler ≡ need_of_shape (shape_of a k) =
    sym c.in-Complement.is ∙ c.need_of.ensures ∙ ap need_of_shape c.shape.ensures.shape in
    complement_needed (is_below c.args.roles.now) (is_transitive c.args.roles.now) a c.negated.new.self k
    c.in-Complement.filler c.in_ok-negated-in-Complement.field-0 c.negated.ensures.kept c.requires.listed
    (filler_of_need a c.shape.ensures.table k c.in-Complement.filler c.requires.listed need) need
    c.in_ok-negated-in-Complement.ensures.number

pub returns-in-Carries-clause-needed : goal.returns-in-Carries-clause-needed
returns-in-Carries-clause-needed c =
    let a = c.args.concepts.now in
    let k = c.args.number in
    let need : Carries c.in-Carries.role c.in-Carries.filler ≡ need_of_shape (shape_of a k) =
    sym c.in-Carries.is ∙ c.need_of.ensures ∙ ap need_of_shape c.shape.ensures.shape in
    on_ok_weaker c.put_carried.result
    (λ carried. carried_needed c.args.roles.now c.args.transitive.now a c.put_carried.new.concepts k c.in-Carries.role
    c.in-Carries.filler c.put_carried.ensures.kept c.requires.listed need c.requires.transitive carried)
    c.put_carried.ensures.carried
