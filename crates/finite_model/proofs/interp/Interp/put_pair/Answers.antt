use Rattle.std.proofs.Common.{◌<◌, subst, sym}
use Rattle.finite_model.specs.ModelLists.{ModelLists, IsDomain}
use Rattle.finite_model.proofs.Inside.{link_put}
use Rattle.finite_model.proofs.interp.Interp.put_pair.Goals as goal

pub invariant_of-self-2 : goal.invariant_of-self-2
invariant_of-self-2 c =
    let within : c.args.x < c.self.inside.size =
    subst (λ (k : ModelLists). c.args.x < k.size) (sym c.self.view_is) c.requires.from in
    let to : c.args.y < c.self.inside.size =
    subst (λ (k : ModelLists). c.args.y < k.size) (sym c.self.view_is) c.requires.to in
    let put =
    link_put c.self.inside.size c.args.role c.args.x c.args.y c.self.inside.members.keys c.self.inside.links.keys
    c.self.inside.individuals.entries c.self.invariant within to in
    subst (λ ks. IsDomain c.self.inside.size c.self.inside.members.keys ks c.self.inside.individuals.entries)
    (sym c.in_ok-insert.ensures.keys) put
