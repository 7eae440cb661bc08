use Rattle.std.proofs.Common.{◌≡◌, sym, subst}
use Rattle.axiom_sets.proofs.Same.{same_limited}
use Rattle.audit_jobs.specs.Kept.{HasModel}
use Rattle.audit_jobs.specs.Listed.{outside}
use Rattle.audit_jobs.proofs.Putting.{puts_repair}
use Rattle.audit_jobs.proofs.listing.put_repair.Goals as goal

pub take_model-kept-requires : goal.take_model-kept-requires
take_model-kept-requires c =
    let rest_is : c.in_ok-rest.rest ≡ outside c.args.set.now =
    same_limited c.in_ok-rest.rest (outside c.args.set.now) c.in_ok-rest.ensures.limit c.in_ok-rest.ensures.members in
    subst (HasModel c.args.models.now.items) (sym rest_is) c.requires.modelled

pub returns : goal.returns
returns c =
    let rest_is : c.in_ok-rest.rest ≡ outside c.args.set.now =
    same_limited c.in_ok-rest.rest (outside c.args.set.now) c.in_ok-rest.ensures.limit c.in_ok-rest.ensures.members in
    puts_repair c.put_model.result c.args.set.now c.in_ok-set.set c.in_ok-rest.rest c.args.audit.now
    c.put_model.new.audit c.args.models.now.items c.take_model-kept.new.models.items c.take_model-kept.result
    c.in_ok-set.ensures rest_is
    c.put_model.ensures c.take_model-kept.ensures
