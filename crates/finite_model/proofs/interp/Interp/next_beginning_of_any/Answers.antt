use Rattle.std.proofs.Common.{get_or, refl}
use Rattle.finite_model.specs.ModelLists.{begins}
use Rattle.finite_model.proofs.Candidates.{more_of_any}
use Rattle.finite_model.proofs.interp.Interp.next_beginning_of_any.Goals as goal

pub loop-role-preserved : goal.loop-role-preserved
loop-role-preserved c =
    let k = c.args.self.now in
    let roles = c.args.roles.now in
    let index = c.loop-role.role-index in
    more_of_any k.size c.args.from (begins k) roles index 0 (get_or roles index 0) c.loop-role-test.true refl
    c.loop-role.next c.next_beginning.result c.least-next.result c.loop-role.invariant c.next_beginning.ensures
    c.least-next.ensures
