use Rattle.std.proofs.Common.{List, sym, subst, ℕ}
use Rattle.completion_tree.specs.Trail.{facts_in}
use Rattle.blocking.specs.Followed.{IsBound}
use Rattle.blocking.specs.Hinted.{known_at}
use Rattle.blocking.proofs.Hinted.{bound_is}
use Rattle.blocking.proofs.Sieve.{known_so}
use Rattle.blocking.proofs.block_list.find.Goals as goal

pub lowered-requires : goal.lowered-requires
lowered-requires g c =
    let fs = facts_in c.args.tree.now.entries in
    let x = c.args.node in
    let h = c.args.hints.now in
    let blocks = c.args.blocks.now in
    let known = known_so c.args.tree.now.first fs x blocks h.known c.requires.blocks c.requires.sound in
    subst (λ (but : List ℕ). IsBound fs blocks x but c.in-Some.bound) (sym c.changed.ensures)
    (bound_is fs blocks x h.known h.changed (known_at h.known x).label (c.requires.known c.in-Some.ensures.known).1
    (λ z lt out. known z lt) c.in-Some.bound c.in-Some.ensures.bound)
