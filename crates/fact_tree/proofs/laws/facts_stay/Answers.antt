use Rattle.fact_tree.proofs.Agreeing.{facts-stay}
use Rattle.fact_tree.proofs.laws.facts_stay.Goals as goal

pub returns : goal.returns
returns c = facts-stay
