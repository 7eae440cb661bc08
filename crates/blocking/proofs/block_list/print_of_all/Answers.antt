use Rattle.blocking.proofs.Labels.{shown}
use Rattle.blocking.proofs.block_list.print_of_all.Goals as goal

pub returns-clause-shows : goal.returns-clause-shows
returns-clause-shows c = shown c.args.label.now c.print_of.result c.print_of.ensures.shows
