use Rattle.std.proofs.Common.{arith}
use Rattle.role_box.proofs.Answering.{below_outside}
use Rattle.role_box.proofs.role_box.RoleBox.role_bound.Goals as goal

pub returns-clause-outside : goal.returns-clause-outside
returns-clause-outside c =
    rw (← c.self.view_is)
    (λ r s le. below_outside c.self.inside.axioms.items r s (omega (arith, c.self.invariant.listed)))
