use Rattle.std.proofs.Common.{◌≡◌, ◌<◌, rules, subst, sym}
use Rattle.finite_model.specs.ModelLists.{ModelLists, IsDomain, element_at}
use Rattle.finite_model.proofs.Inside.{placed_inside}
use Rattle.finite_model.proofs.interp.Interp.individual.Goals as goal

pub returns-clause-inside : goal.returns-clause-inside
returns-clause-inside c =
    let k = c.args.self.now in
    let is : c.unwrap_or.result ≡ element_at k.individuals c.args.individual = search rules in
    subst (λ x. x < k.size) (sym is)
    (placed_inside k
    (subst (λ (l : ModelLists). IsDomain l.size l.members l.links l.individuals) c.self.view_is c.self.invariant)
    c.args.individual)
