use Rattle.std.proofs.Common.{arith}
use Rattle.role_box.proofs.Rows.{inclusion_more}
use Rattle.role_box.proofs.closure.add_steps.Goals as goal

pub returns-in-Inclusion : goal.returns-in-Inclusion
returns-in-Inclusion c =
    let listed = rw c.in-Inclusion.is at c.requires.listed in
    rw c.in-Inclusion.is (inclusion_more _ _ _ _ (omega (arith, listed)) c.put_role.ensures)
