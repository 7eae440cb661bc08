use Rattle.std.proofs.Common.{◌≡◌, length, refl, arith}
use Rattle.audit_check.proofs.Ascending.{same_by_places}
use Rattle.audit_check.proofs.listed.are_same.Goals as goal

pub returns : goal.returns
returns c =
    let same : length c.args.found.now ≡ length c.args.list.now = omega (arith, c.if-found-list.false) in (
      λ _. same_by_places c.args.found.now c.args.list.now same
          (λ i d lt. c.loop-place.invariant i d (omega (arith, lt, same))),
      λ _. refl,
    )
