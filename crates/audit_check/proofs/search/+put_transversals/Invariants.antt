use Rattle.std.proofs.Common.{◌-◌, length}
use Rattle.axiom_sets.specs.Sets.{member_list}
use Rattle.audit_check.proofs.Found.{IsRunning}
use Rattle.audit_check.proofs.search.+put_transversals.Given as goal

abbrev pub decreases-put_transversals : goal.decreases-put_transversals
decreases-put_transversals l = l.hit.now.limit - length (member_list l.hit.now)

abbrev pub invariant-loop-number : goal.invariant-loop-number
invariant-loop-number l =
    IsRunning l.sets l.hit l.barred l.shut l.initial.number-iterator l.number-iterator l.fn.found.items l.found.items
