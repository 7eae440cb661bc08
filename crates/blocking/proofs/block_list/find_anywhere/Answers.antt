use Rattle.std.proofs.Common.{◌≡◌, ◌∙◌, List, length, take, ap, ℕ}
use Rattle.lane_sieve.specs.Words.{places}
use Rattle.completion_tree.specs.Trail.{facts_in}
use Rattle.blocking.specs.Followed.{blocked_among}
use Rattle.blocking.proofs.BlockLists.{length-blocks_to}
use Rattle.blocking.proofs.Sieve.{sieve_finds, known_so}
use Rattle.blocking.proofs.block_list.find_anywhere.Goals as goal

pub returns-clause-block : goal.returns-clause-block
returns-clause-block g c =
    let first = c.args.tree.now.first in
    let fs = facts_in c.args.tree.now.entries in
    let x = c.args.node in
    let print = c.args.print in
    let h = c.args.hints.now in
    let blocks = c.args.blocks.now in
    let long : length blocks ≡ x = ap length c.requires.blocks ∙ length-blocks_to first fs x in
    let found : take c.sift-count.result c.deref.result.now ≡ places 0 print h.prints =
    ap (take c.sift-count.result) c.deref.ensures.value ∙ c.sift-count.ensures.found in
    c.first_blocking.ensures
    ∙ ap (λ (zs : List ℕ). blocked_among fs blocks x zs) found
    ∙ sieve_finds fs blocks x long h.known h.prints print
    (known_so first fs x blocks h.known c.requires.blocks c.requires.sound) c.sift-count.ensures.shown
    c.sift-count.ensures.each c.requires.sound.enough c.requires.print c.requires.words c.sift-count.ensures.fits
