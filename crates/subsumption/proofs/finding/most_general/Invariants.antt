use Rattle.std.proofs.Common.{◌≡◌, ◌+◌, ◌<◌, true}
use Rattle.std.specs.FinSet as set
use Rattle.subsumption.proofs.finding.most_general.Given as goal

abbrev pub invariant-loop : goal.invariant-loop
invariant-loop l = (l.best < l.known.count + 2) × (set.contains l.classes.members (l.best + 1) ≡ true)
