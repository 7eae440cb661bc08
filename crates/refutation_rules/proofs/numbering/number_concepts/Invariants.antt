use Rattle.refutation_rules.specs.Numbers.{AreFirst}
use Rattle.std.proofs.Common.{◌+◌}
use Rattle.refutation_rules.proofs.numbering.number_concepts.Given as goal

abbrev pub invariant-loop-place : goal.invariant-loop-place
invariant-loop-place l = AreFirst l.refutation.shapes l.concepts l.numbers.items (l.place + 1)
