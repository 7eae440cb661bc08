use Rattle.std.proofs.Common.{◌≡◌, ap, ◌∙◌}
use Rattle.shq_terms.specs.declared.axioms.Axiom.TheVariants.{Pair}
use Rattle.finite_model.specs.ModelLists.{meaning}
use Rattle.finite_model.proofs.interp.Interp.assertion_is_met.Goals as goal

pub returns-in-Pair : goal.returns-in-Pair
returns-in-Pair c =
    let i = meaning c.args.self.now in
    let is : c.args.axiom.now ≡ Pair c.in-Pair.role c.in-Pair.from c.in-Pair.to = cc in
    rw is
    (c.in_role.ensures
    ∙ ap (λ x. i.in_role c.in-Pair.role x c.individual-in-Pair-2.result) c.individual-in-Pair.ensures.element
    ∙ ap (λ y. i.in_role c.in-Pair.role (i.individual c.in-Pair.from) y) c.individual-in-Pair-2.ensures.element)
