use Rattle.std.proofs.Common.{arith}
use Rattle.role_box.proofs.TransitiveRoles.{between_members, between_ascending}
use Rattle.role_box.proofs.role_box.RoleBox.transitive_between.Goals as goal

pub returns-clause-members : goal.returns-clause-members
returns-clause-members c =
    let listed = rw c.self.view_is at c.self.invariant.listed in
    between_members c.args.self.now c.args.lower c.args.upper c.len.result (omega (arith, listed))

pub returns-clause-ascending : goal.returns-clause-ascending
returns-clause-ascending c = between_ascending c.args.self.now c.args.lower c.args.upper c.len.result
