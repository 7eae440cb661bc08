use Rattle.completion_tree.specs.Trail.{facts_in}
use Rattle.blocking.proofs.Labels.{front_within}
use Rattle.blocking.proofs.block_list.print_to_ask.Goals as goal

pub returns-clause-shows : goal.returns-clause-shows
returns-clause-shows g c =
    front_within (facts_in c.args.tree.now.entries) c.args.node c.label-label.result.now c.label-label.ensures.held _
    c.print_of.result c.print_of.ensures.shows
