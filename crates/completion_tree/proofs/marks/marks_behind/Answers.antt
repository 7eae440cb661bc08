use Rattle.std.proofs.Common.{sym, ◌∙◌}
use Rattle.completion_tree.proofs.Resting.{top-within}
use Rattle.completion_tree.proofs.marks.marks_behind.Goals as goal

pub returns-then-is_top : goal.returns-then-is_top
returns-then-is_top g c = top-within _ c.args.trail.now c.args.asked (sym c.is_top.ensures ∙ c.if-is_top.true)
