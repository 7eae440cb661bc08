use Rattle.std.proofs.Common.{◌≤◌, arith, sym, subst}
use Rattle.std.specs.Prelude.{Result, Ok, Err, OnErr}
use Rattle.completion_tree.specs.Trail.{facts_in}
use Rattle.blocking.specs.Followed.{AreBlocksBelow}
use Rattle.blocking.proofs.BlockLists.{enough_blocks, followed_below}
use Rattle.blocking.proofs.block_list.Blocks.follow.Goals as goal

on_err : {T E : Type 0} (r : Result T E) (P : Type 0) → P → OnErr r P
on_err (Ok x) P h = tt
on_err (Err e) P h = h

pub cut-requires : goal.cut-requires
cut-requires g c =
    enough_blocks c.args.tree.now.first (facts_in c.args.tree.now.entries) c.args.from c.args.self.now c.requires

pub returns-in_err-follow_node-clause-kept : goal.returns-in_err-follow_node-clause-kept
returns-in_err-follow_node-clause-kept g c =
    let fs = facts_in c.args.tree.now.entries in
    let low : c.args.from ≤ c.loop-node.node = omega arith in
    let kept =
    followed_below c.args.tree.now.first fs c.loop-node.node c.args.from c.loop-node.self c.loop-node.invariant low
    c.requires.within in
    on_err c.from_residual.result (AreBlocksBelow c.args.tree.now.first fs c.args.from c.follow_node.new.self)
    (subst (AreBlocksBelow c.args.tree.now.first fs c.args.from) (sym c.in_err-follow_node.ensures.unchanged) kept)
