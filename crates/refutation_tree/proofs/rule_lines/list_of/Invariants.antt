use Rattle.std.proofs.Common.{◌≡◌, ◌++◌, drop}
use Rattle.refutation_tree.proofs.rule_lines.list_of.Given as goal

abbrev pub invariant-loop-number : goal.invariant-loop-number
invariant-loop-number l = l.list ++ drop l.number-index l.numbers ≡ l.numbers
