use Rattle.std.proofs.Common.{◌≡◌, drop}
use Rattle.role_box.specs.Simple.{first_not_simple}
use Rattle.role_box.proofs.simple_roles.find_not_simple.Given as goal

abbrev pub invariant-loop-numbered : goal.invariant-loop-numbered
invariant-loop-numbered l =
    first_not_simple l.roles l.axioms ≡ first_not_simple l.roles (drop l.numbered-index l.axioms)
