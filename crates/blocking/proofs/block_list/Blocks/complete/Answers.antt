use Rattle.std.specs.Prelude.{Result, Ok, Err, OnOk}
use Rattle.completion_tree.specs.Trail.{facts_in}
use Rattle.blocking.specs.Followed.{AreFirstBlocks, IsCurrent}
use Rattle.blocking.proofs.BlockLists.{all_are_first}
use Rattle.blocking.proofs.block_list.Blocks.complete.Goals as goal

on_ok : {T E : Type 0} (r : Result T E) (P Q : Type 0) → (P → Q) → OnOk r P → OnOk r Q
on_ok (Ok x) P Q f h = f h
on_ok (Err e) P Q f h = tt

pub returns-clause-first : goal.returns-clause-first
returns-clause-first g c =
    let fs = facts_in c.args.tree.now.entries in
    let p = c.follow.new.self in
    on_ok c.follow.result (IsCurrent c.args.tree.now.first fs p) (AreFirstBlocks c.args.tree.now.first fs p)
    (all_are_first c.args.tree.now.first fs p) c.follow.ensures.followed
