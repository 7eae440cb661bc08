use Rattle.std.proofs.Common.{map}
use Rattle.refutation_rules.specs.RuleLine.{line_of}
use Rattle.refutation_check.proofs.Reading.{IsRead}
use Rattle.refutation_check.proofs.lines.read_on.Given as goal

abbrev pub invariant-loop-place : goal.invariant-loop-place
invariant-loop-place l = IsRead l.fn.rules l.rules l.stack (map line_of l.lines) l.place
