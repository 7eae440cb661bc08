use Rattle.blocking.proofs.Touched.{stand_before}
use Rattle.blocking.proofs.changed.current_before.Goals as goal

pub returns-clause-stand : goal.returns-clause-stand
returns-clause-stand g c =
    λ p. stand_before c.args.tree.now.first c.args.tree.now.entries c.args.place c.args.from c.least_changed.result
    c.min.result p c.requires.parents c.least_changed.ensures.leaves c.min.ensures
