use Rattle.step_finders.proofs.Clashing.{shown_is_plain}
use Rattle.step_finders.proofs.clash.shown_clashes_are_plain.Goals as goal

pub returns : goal.returns
returns c = shown_is_plain
