use Rattle.refutation_check.proofs.needed.needed_lines.Goals as goal

pub new-requires-2-clause-within : goal.new-requires-2-clause-within
new-requires-2-clause-within c = c.requires.checkable.axioms
