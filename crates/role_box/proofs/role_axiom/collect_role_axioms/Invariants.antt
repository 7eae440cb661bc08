use Rattle.std.proofs.Common.{◌≡◌, ◌++◌, drop}
use Rattle.role_box.specs.RoleAxioms.{role_axioms}
use Rattle.role_box.proofs.role_axiom.collect_role_axioms.Given as goal

abbrev pub invariant-loop-number : goal.invariant-loop-number
invariant-loop-number l = l.found.items ++ role_axioms l.all (drop l.number-index l.only) ≡ role_axioms l.all l.only
