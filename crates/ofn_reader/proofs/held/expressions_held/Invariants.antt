use Rattle.std.proofs.Common.{◌≡◌, ◌-◌, drop}
use Rattle.ofn_reader.specs.Held.{expression_count}
use Rattle.ofn_reader.proofs.held.expressions_held.Given as goal

abbrev pub invariant-loop-numbered : goal.invariant-loop-numbered
invariant-loop-numbered l =
    l.left - expression_count (drop l.numbered-index l.axioms) ≡ 262144 - expression_count l.axioms
