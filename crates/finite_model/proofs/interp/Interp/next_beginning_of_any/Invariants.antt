use Rattle.std.proofs.Common.{take}
use Rattle.finite_model.specs.AtElement.{begins_any}
use Rattle.finite_model.specs.Next.{IsNext}
use Rattle.finite_model.proofs.interp.Interp.next_beginning_of_any.Given as goal

abbrev pub invariant-loop-role : goal.invariant-loop-role
invariant-loop-role l = IsNext l.self.size l.from (begins_any l.self (take l.role-index l.roles)) l.next
