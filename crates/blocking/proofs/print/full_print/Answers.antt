use Rattle.blocking.proofs.Labels.{each_shown}
use Rattle.blocking.proofs.print.full_print.Goals as goal

pub returns-clause-shows : goal.returns-clause-shows
returns-clause-shows c = each_shown
