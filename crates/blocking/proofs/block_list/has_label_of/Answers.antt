use Rattle.std.proofs.Common.{◌∙◌}
use Rattle.calculus_specs.specs.State.{has}
use Rattle.completion_tree.specs.Trail.{facts_in}
use Rattle.blocking.proofs.Labels.{all_of_label}
use Rattle.blocking.proofs.block_list.has_label_of.Goals as goal

pub returns : goal.returns
returns g c =
    let fs = facts_in c.args.tree.now.entries in
    c.has_all.ensures ∙ all_of_label fs c.args.node c.label.result.now c.label.ensures.held (has fs c.args.other)
