use Rattle.pinpointing_jobs.proofs.Union.{none_listed}
use Rattle.pinpointing_jobs.proofs.axiom_lines.union_of.Goals as goal

pub returns-clause-members : goal.returns-clause-members
returns-clause-members c =
    none_listed c.args.sets.now c.in_ok-union.union.members c.unite_with.new.union.members c.in_ok-union.ensures.members
    c.unite_with.ensures.members
