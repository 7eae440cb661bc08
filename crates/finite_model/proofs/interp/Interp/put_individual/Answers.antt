use Rattle.std.proofs.Common.{◌<◌, subst, sym}
use Rattle.finite_model.specs.ModelLists.{ModelLists, IsDomain}
use Rattle.finite_model.proofs.Inside.{individual_removed, individual_entered}
use Rattle.finite_model.proofs.interp.Interp.put_individual.Goals as goal

pub invariant_of-self : goal.invariant_of-self
invariant_of-self c =
    subst (λ ps. IsDomain c.self.inside.size c.self.inside.members.keys c.self.inside.links.keys ps)
    (sym c.remove.ensures.entries)
    (individual_removed c.self.inside.size c.args.individual c.args.x c.self.inside.members.keys
    c.self.inside.links.keys c.self.inside.individuals.entries c.self.invariant)

pub invariant_of-self-in_ok-insert : goal.invariant_of-self-in_ok-insert
invariant_of-self-in_ok-insert c =
    let within : c.args.x < c.self.inside.size =
    subst (λ (k : ModelLists). c.args.x < k.size) (sym c.self.view_is) c.requires in
    subst (λ ps. IsDomain c.self.inside.size c.self.inside.members.keys c.self.inside.links.keys ps)
    (sym c.in_ok-insert.ensures.entries)
    (individual_entered c.self.inside.size c.args.individual c.args.x c.self.inside.members.keys
    c.self.inside.links.keys c.self.inside.individuals.entries c.self.invariant c.if-x-eq0.false within)
