use Rattle.std.proofs.Common.{subst}
use Rattle.tableau.specs.Beginning.{IsEndElsewhere}
use Rattle.shq_oracle.proofs.tested.begin.Goals as goal

pub beginning-requires-clause-is_clear : goal.beginning-requires-clause-is_clear
beginning-requires-clause-is_clear g c =
    (subst (IsEndElsewhere c.args.fuel c.args.search.now c.run_elsewhere.new.self) c.in-None.is
    c.in_ok-end.ensures.end).1.is_clear
