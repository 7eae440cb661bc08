use Rattle.std.proofs.Common.{◌≡◌, ℕ, ◌+◌, ◌≤◌, ◌∙◌, ◌&&◌, eqb, List, [], ◌∷◌, ◌++◌, length, take, ap, sym, subst}
use Rattle.std.proofs.Common.{arith}
use Rattle.std.proofs.lemmas.List.{length-append}
use Rattle.calculus_specs.specs.Joins.{rep}
use Rattle.calculus_specs.specs.Listed.{IsLabel}
use Rattle.tableau_specs.specs.declared.Block.{Block}
use Rattle.tableau_specs.specs.Blocked.{is_clear}
use Rattle.completion_tree.specs.Trail.{facts_in}
use Rattle.blocking.specs.Followed.{Printed, IsSound}
use Rattle.blocking.specs.Hinted.{KnownNode, known_of, AreExact}
use Rattle.blocking.proofs.Hinted.{exact_more, known_more, take_with}
use Rattle.blocking.proofs.Sieve.{sound_inside, hint_found}
use Rattle.blocking.proofs.BlockLists.{length-blocks_to, followed_more}
use Rattle.blocking.proofs.block_list.Blocks.follow_node.Goals as goal

pub find-block-requires-clause-blocks : goal.find-block-requires-clause-blocks
find-block-requires-clause-blocks g c =
    c.as_slice.ensures.value ∙ ap (λ (q : Printed). q.blocks) c.self.view_is ∙ c.requires.followed.all_blocks

pub find-block-requires-clause-sound : goal.find-block-requires-clause-sound
find-block-requires-clause-sound g c =
    let first = c.args.tree.now.first in
    let fs = facts_in c.args.tree.now.entries in
    let x = c.args.node in
    let blocks = c.self.inside.blocks.items in
    let same = ap (λ (q : Printed). q.blocks) c.self.view_is in
    let long : length blocks ≡ x =
    ap length (same ∙ c.requires.followed.all_blocks) ∙ length-blocks_to first fs x in
    sound_inside first fs x c.args.self.now blocks c.self.inside.hints.known c.requires.followed same
    (ap (λ (q : Printed). q.known) c.self.view_is) (omega (arith, long, c.self.invariant.0))

pub find-block-requires-clause-known : goal.find-block-requires-clause-known
find-block-requires-clause-known g c is_known = (
  c.has_label-is_known.ensures.known is_known,
  subst (λ (cs : List ℕ). IsLabel (facts_in c.args.tree.now.entries) c.args.node cs)
      (sym (c.has_label-is_known.ensures.label is_known)) c.label-label.ensures.held,
)

pub put_known-requires-clause-hint : goal.put_known-requires-clause-hint
put_known-requires-clause-hint g c =
    let first = c.args.tree.now.first in
    let fs = facts_in c.args.tree.now.entries in
    let x = c.args.node in
    let blocks = c.self.inside.blocks.items in
    let same = ap (λ (q : Printed). q.blocks) c.self.view_is in
    let all = same ∙ c.requires.followed.all_blocks in
    let long : length blocks ≡ x = ap length all ∙ length-blocks_to first fs x in
    let sound =
    sound_inside first fs x c.args.self.now blocks c.self.inside.hints.known c.requires.followed same
    (ap (λ (q : Printed). q.known) c.self.view_is) (omega (arith, long, c.self.invariant.0)) in
    hint_found first fs x blocks c.self.inside.hints.known c.label-label.result.now c.find-block.result
    c.hint_of-hint.result all sound c.label-label.ensures.held c.find-block.ensures.block c.hint_of-hint.ensures.first
    c.hint_of-hint.ensures.other

pub invariant_of-self-in-Ok : goal.invariant_of-self-in-Ok
invariant_of-self-in-Ok g c =
    let first = c.args.tree.now.first in
    let fs = facts_in c.args.tree.now.entries in
    let x = c.args.node in
    let p = c.args.self.now in
    let ks = c.self.inside.hints.known in
    let blocks = c.self.inside.blocks.items in
    let block = c.find-block.result in
    let k = known_of c.label-label.result.now c.can_block-may_block.result c.hint_of-hint.result in
    let same : blocks ≡ p.blocks = ap (λ (q : Printed). q.blocks) c.self.view_is in
    let taken : take (length blocks) ks ≡ p.known = ap (λ (q : Printed). q.known) c.self.view_is in
    let all = same ∙ c.requires.followed.all_blocks in
    let long : length blocks ≡ x = ap length all ∙ length-blocks_to first fs x in
    let le : x ≤ length ks = omega (arith, long, c.self.invariant.0) in
    let more : length c.push.new.self.items ≡ x + 1 =
    omega (arith, ap length c.in_ok-push.ensures.items, length-append blocks (block ∷ []), long) in
    let room : x + 1 ≤ length c.make_room.new.found.items =
    c.in_ok-make_room.ensures.room (omega (arith, le, c.self.invariant.1, c.find-block.ensures.room)) in
    let counts = known_more ks x k le in
    let exact : AreExact ks x = λ z lt. c.self.invariant.2 z (omega (arith, lt, long)) in
    let hint =
    hint_found first fs x blocks ks c.label-label.result.now block c.hint_of-hint.result all
    (sound_inside first fs x p blocks ks c.requires.followed same taken le) c.label-label.ensures.held
    c.find-block.ensures.block c.hint_of-hint.ensures.first c.hint_of-hint.ensures.other in
    subst
    (λ (ls : List KnownNode). (length c.push.new.self.items ≤ length ls)
    × (length ls ≤ length c.make_room.new.found.items) × AreExact ls (length c.push.new.self.items))
    (sym c.in-Ok.ensures.put) (
      omega (arith, more, counts.0),
      counts.1 (length c.make_room.new.found.items)
          (omega (arith, c.self.invariant.1, c.find-block.ensures.room, c.in_ok-make_room.ensures.more)) room,
      λ z lt. exact_more ks x k exact le hint z (omega (arith, lt, more)),
    )

pub returns-in-Ok-clause-followed : goal.returns-in-Ok-clause-followed
returns-in-Ok-clause-followed g c =
    let first = c.args.tree.now.first in
    let fs = facts_in c.args.tree.now.entries in
    let x = c.args.node in
    let p = c.args.self.now in
    let ks = c.self.inside.hints.known in
    let blocks = c.self.inside.blocks.items in
    let block = c.find-block.result in
    let k = known_of c.label-label.result.now c.can_block-may_block.result c.hint_of-hint.result in
    let same : blocks ≡ p.blocks = ap (λ (q : Printed). q.blocks) c.self.view_is in
    let taken : take (length blocks) ks ≡ p.known = ap (λ (q : Printed). q.known) c.self.view_is in
    let long : length blocks ≡ x =
    ap length (same ∙ c.requires.followed.all_blocks) ∙ length-blocks_to first fs x in
    let le : x ≤ length ks = omega (arith, long, c.self.invariant.0) in
    let now = c.push.new.self.items in
    let all : now ≡ p.blocks ++ block ∷ [] =
    c.in_ok-push.ensures.items ∙ ap (λ (bs : List Block). bs ++ block ∷ []) same in
    let more : length now ≡ x + 1 =
    omega (arith, ap length c.in_ok-push.ensures.items, length-append blocks (block ∷ []), long) in
    let first_known : take x ks ≡ p.known = ap (λ (n : ℕ). take n ks) (sym long) ∙ taken in
    let known : take (length now) c.put_known.new.hints.known ≡ p.known ++ k ∷ [] =
    (λ i. take (more i) (c.in-Ok.ensures.put i)) ∙ take_with ks x k le
    ∙ ap (λ (ls : List KnownNode). ls ++ k ∷ []) first_known in
    let sound : IsSound first fs x k =
    record {
      labelled = c.label-label.ensures.held;
      may_block =
          c.can_block-may_block.ensures ∙ ap (λ (b : Block). eqb (rep fs x) x && is_clear b) c.find-block.ensures.block;
    } in
    followed_more first fs x p (record { blocks = now; known = take (length now) c.put_known.new.hints.known }) block k
    c.requires.followed c.find-block.ensures.block sound (λ i. record { blocks = all i; known = known i })
