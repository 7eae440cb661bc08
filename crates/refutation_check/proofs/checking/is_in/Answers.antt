use Rattle.std.proofs.Common.{arith, inl, inr}
use Rattle.refutation_check.proofs.Named.{outside}
use Rattle.refutation_check.proofs.checking.is_in.Goals as goal
use Rattle.refutation_check.proofs.checking.is_in.Goals.{then-number-lt1-via-then-number-lt1}
use Rattle.refutation_check.proofs.checking.is_in.Goals.{then-number-lt1-via-else-number-lt1+then-number-limit}

pub returns-then-number-lt1 : goal.returns-then-number-lt1
returns-then-number-lt1 c =
    let s = c.args.set.now in
    elim c.then-number-lt1.branch [
      | then-number-lt1-via-then-number-lt1 w ↦
          outside s c.args.number c.limit-limit.ensures.within (inl (omega (arith, w.if-number-lt1.true)))
      | then-number-lt1-via-else-number-lt1+then-number-limit w ↦
          outside s c.args.number c.limit-limit.ensures.within
          (inr (omega (arith, w.if-number-limit.true, c.limit-limit.ensures.limit)))
    ]
