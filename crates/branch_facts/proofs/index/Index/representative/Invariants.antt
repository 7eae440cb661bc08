use Rattle.std.proofs.Common.{◌≡◌}
use Rattle.branch_facts.specs.Seen.{through}
use Rattle.branch_facts.proofs.index.Index.representative.Given as goal

abbrev pub invariant-loop-lower : goal.invariant-loop-lower
invariant-loop-lower l = through l.self.links l.reached ≡ through l.self.links l.node

-- a link leads to a lower node
abbrev pub decreases-loop-lower : goal.decreases-loop-lower
decreases-loop-lower l = l.reached
