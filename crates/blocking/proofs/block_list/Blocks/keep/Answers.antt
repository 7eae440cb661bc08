use Rattle.std.proofs.Common.{sym, subst}
use Rattle.blocking.specs.Followed.{AreFirstBlocks}
use Rattle.completion_tree.specs.Trail.{facts_in}
use Rattle.blocking.proofs.BlockLists.{enough_blocks, first_kept}
use Rattle.blocking.proofs.block_list.Blocks.keep.Goals as goal

pub cut-requires : goal.cut-requires
cut-requires g c =
    enough_blocks c.args.tree.now.first (facts_in c.args.tree.now.entries) c.args.len c.args.self.now c.requires

pub returns-clause-first : goal.returns-clause-first
returns-clause-first g c =
    subst (AreFirstBlocks c.args.tree.now.first (facts_in c.args.tree.now.entries)) (sym c.cut.ensures)
    (first_kept c.args.tree.now.first (facts_in c.args.tree.now.entries) c.args.len c.args.self.now c.requires)
