use Rattle.std.proofs.Common.{◌+◌, length, ap, ◌∙◌, sym, subst, arith}
use Rattle.std.specs.FinSet as sets
use Rattle.shq_oracle.specs.ApartLists.{ApartLists, IsKeptApart}
use Rattle.shq_oracle.proofs.apart.Apart.shows.Goals as goal

pub overflow_add-class : goal.overflow_add-class
overflow_add-class c = omega (
  arith,
  c.requires,
  c.self.invariant.apart.limit_is,
  ap (λ (a : ApartLists). length a.ontology.classes) c.self.view_is,
  c.limit-limit.ensures.limit,
  c.limit-limit.type_inv,
)

pub has-requires-clause-high : goal.has-requires-clause-high
has-requires-clause-high c = omega (
  arith,
  c.requires,
  c.self.invariant.apart.limit_is,
  ap (λ (a : ApartLists). length a.ontology.classes) c.self.view_is,
)

pub returns-clause-honest : goal.returns-clause-honest
returns-clause-honest c =
    let kept = subst IsKeptApart c.self.view_is c.self.invariant in
    λ shown. (
      kept.of_axioms,
      kept.apart.honest c.args.class c.requires
          (sym (ap (λ (a : ApartLists). sets.contains a.classes.members (c.args.class + 1)) c.self.view_is)
          ∙ sym c.has.ensures ∙ shown),
    )
