use Rattle.std.proofs.Common.{subst}
use Rattle.finite_model.specs.ModelLists.{ModelLists, IsDomain}
use Rattle.finite_model.proofs.Inside.{placed_inside}
use Rattle.finite_model.proofs.interp.Interp.size.Goals as goal

pub returns-clause-places : goal.returns-clause-places
returns-clause-places c =
    placed_inside c.args.self.now
    (subst (λ (k : ModelLists). IsDomain k.size k.members k.links k.individuals) c.self.view_is c.self.invariant)
