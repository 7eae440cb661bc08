use Rattle.std.proofs.Common.{◌≡◌, ap, ◌∙◌, List, get_or}
use Rattle.calculus_specs.specs.State.{node_count_from}
use Rattle.tableau_specs.specs.declared.Block.{Block}
use Rattle.completion_tree.specs.Trail.{facts_in}
use Rattle.blocking.specs.Followed.{Printed}
use Rattle.blocking.proofs.BlockLists.{get-blocks_to}
use Rattle.blocking.proofs.block_list.state.Goals as goal

pub returns : goal.returns
returns g c =
    let fs = facts_in c.args.tree.now.entries in
    let x = c.args.node in
    let d = c.index.result.now in
    let same : c.prints.inside.blocks.items ≡ c.args.prints.now.blocks =
    ap (λ (p : Printed). p.blocks) c.prints.view_is in
    c.index.ensures ∙ ap (λ (bs : List Block). get_or bs x d) (same ∙ c.requires.current.all_blocks)
    ∙ get-blocks_to c.args.tree.now.first fs (node_count_from c.args.tree.now.first fs) x d c.requires.node
