use Rattle.std.proofs.Common.{sym, ◌∙◌}
use Rattle.calculus_specs.specs.Joins.{rep}
use Rattle.completion_tree.proofs.Resting.{joining_within}
use Rattle.completion_tree.proofs.marks.ground_marks.Goals as goal

pub returns-then-is_joining : goal.returns-then-is_joining
returns-then-is_joining g c =
    joining_within (rep c.args.facts.now.facts) c.args.asked _ c.args.trail.now
    (sym c.is_joining.ensures ∙ c.if-is_joining.true)
