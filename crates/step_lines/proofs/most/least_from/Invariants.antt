use Rattle.std.proofs.Common.{◌&&◌, eqb, leb, take}
use Rattle.std.specs.List.{list_any}
use Rattle.step_finders.specs.Filled.{IsLeast}
use Rattle.step_lines.proofs.most.least_from.Given as goal

abbrev pub invariant-loop-number : goal.invariant-loop-number
invariant-loop-number l =
    IsLeast (λ z. list_any (eqb z) (take l.number-index l.numbers) && leb l.from z) l.least
