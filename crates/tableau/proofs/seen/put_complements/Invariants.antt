use Rattle.tableau.proofs.Noting.{IsPutting}
use Rattle.tableau.proofs.seen.put_complements.Given as goal

abbrev pub invariant-loop-concept : goal.invariant-loop-concept
invariant-loop-concept g l = IsPutting (g.R.Rules.context l.rules).table l.concepts l.concept-index l.fn.set l.set
