use Rattle.std.proofs.Common.{◌≡◌, ◌∙◌, ◌<◌, length, get_or, true, false, sym, subst, arith}
use Rattle.std.specs.List.{Contains}
use Rattle.set_questions.specs.Asked.{Takes}
use Rattle.justification_shrink.proofs.Shrinking.{keeps_on}
use Rattle.hitting_set_tree.specs.declared.frames.Frame.{Frame}
use Rattle.hitting_set_tree.specs.Tree.{lists}
use Rattle.hitting_set_tree.proofs.Opening.{free, node_free}
use Rattle.hitting_set_tree.proofs.Path.{nothing_left, path_open, path_beside, path_last, one_longer}
use Rattle.hitting_set_tree.proofs.Begun.{in_err, nodes_still}
use Rattle.hitting_set_tree.proofs.Showing.{nothing_on}
use Rattle.hitting_set_tree.proofs.tree.take_path.Goals as goal

pub take_node-requires-clause-limit : goal.take_node-requires-clause-limit
take_node-requires-clause-limit g c =
    let tree = c.args.tree.now in
    let frame = c.index.result.now in
    let lt : c.loop-place.place < length tree.frames.items =
    omega (arith, c.loop-place-test.true, c.len-place-end.ensures, tree.frames.ok.0) in
    (c.requires.frames frame (c.loop-place.place, lt, sym c.index.ensures)).hit_limit
    ∙ sym c.loop-place.invariant.keeps.same_size

pub take_node-requires-clause-fresh : goal.take_node-requires-clause-fresh
take_node-requires-clause-fresh g c =
    let m0 = g.E.Entail.meaning c.args.entail.now in
    let m = g.E.Entail.meaning c.loop-place.entail in
    let tree = c.args.tree.now in
    let frame = c.index.result.now in
    let lt : c.loop-place.place < length tree.frames.items =
    omega (arith, c.loop-place-test.true, c.len-place-end.ensures, tree.frames.ok.0) in
    let state = c.loop-place.invariant.open' in
    subst (λ (f : Frame). ¬ Contains m.taken f.hit) (sym c.index.ensures)
    (free m0.size m.taken (lists tree) c.loop-place.place state.0 frame state.1 c.requires.frames lt)

pub returns-then-not-taken-clause-taken : goal.returns-then-not-taken-clause-taken
returns-then-not-taken-clause-taken g c =
    let m = g.E.Entail.meaning c.loop-place.entail in
    let m' = g.E.Entail.meaning c.take_node.new.self in
    let hit = c.index.result.now.hit in
    let takes : Takes m m' hit false = rw c.if-not-taken.true at c.in_ok-taken.ensures.answer in
    nothing_left m m' (lists c.args.tree.now) c.loop-place.place hit c.take_node.ensures.keeps
    c.loop-place.invariant.open' takes

pub loop-place-preserved : goal.loop-place-preserved
loop-place-preserved g c =
    let m0 = g.E.Entail.meaning c.args.entail.now in
    let m = g.E.Entail.meaning c.loop-place.entail in
    let m' = g.E.Entail.meaning c.take_node.new.self in
    let tree = c.args.tree.now in
    let frame = c.index.result.now in
    let place = c.loop-place.place in
    let lt : place < length tree.frames.items =
    omega (arith, c.loop-place-test.true, c.len-place-end.ensures, tree.frames.ok.0) in
    let takes : Takes m m' frame.hit true = rw c.if-not-taken.false at c.in_ok-taken.ensures.answer in
    let takes' : Takes m m' (get_or tree.frames.items place frame).hit true =
    subst (λ (f : Frame). Takes m m' f.hit true) c.index.ensures takes in
    let old = c.loop-place.invariant in
    record {
      keeps = keeps_on m0 m m' old.keeps c.take_node.ensures.keeps;
      open' = path_open m m' m0.size (lists tree) place frame old.open' c.requires.frames lt takes';
      beside =
          path_beside m m' m0.size (lists tree) place frame old.open' c.requires.frames lt takes' c.args.node.now
          old.beside;
      asks = c.take_node.ensures.asks ∙ old.asks;
      ran_out = c.take_node.ensures.ran_out ∙ old.ran_out;
      shown = nothing_on m0 m m' old.shown c.take_node.ensures.shown;
      grown = omega (arith, old.grown, one_longer m m' frame.hit takes);
      same = c.take_node.ensures.same ∙ old.same;
    }

pub take_node-requires-2-clause-fresh : goal.take_node-requires-2-clause-fresh
take_node-requires-2-clause-fresh g c =
    let m0 = g.E.Entail.meaning c.args.entail.now in
    let m = g.E.Entail.meaning c.loop-place.entail in
    let tree = c.args.tree.now in
    let state = c.loop-place.invariant.open' in
    let all : c.loop-place.place ≡ length tree.frames.items =
    omega (arith, c.loop-place-test.false, state.1.rooted_within, c.len-place-end.ensures, tree.frames.ok.0) in
    node_free m0.size m.taken (lists tree) c.loop-place.place state.0 c.args.node.now state.1 all
    c.loop-place.invariant.beside c.requires.node

pub returns-clause-taken : goal.returns-clause-taken
returns-clause-taken g c =
    let m0 = g.E.Entail.meaning c.args.entail.now in
    let m = g.E.Entail.meaning c.loop-place.entail in
    let m' = g.E.Entail.meaning c.take_node-2.new.self in
    let tree = c.args.tree.now in
    let state = c.loop-place.invariant.open' in
    let all : c.loop-place.place ≡ length tree.frames.items =
    omega (arith, c.loop-place-test.false, state.1.rooted_within, c.len-place-end.ensures, tree.frames.ok.0) in
    path_last m m' m0.size (lists tree) c.loop-place.place c.args.node.now c.in_ok-taken-2.taken
    c.take_node-2.ensures.keeps state all c.loop-place.invariant.beside c.requires.node c.in_ok-taken-2.ensures.answer

pub returns-in_err-taken-clause-begun : goal.returns-in_err-taken-clause-begun
returns-in_err-taken-clause-begun g c =
    let m = g.E.Entail.meaning c.loop-place.entail in
    let m' = g.E.Entail.meaning c.take_node.new.self in
    in_err c.from_residual.result
    (nodes_still m m' (lists c.args.tree.now) c.loop-place.place c.in_err-taken.ensures.refused
    c.loop-place.invariant.open')

pub returns-in_err-taken-2-clause-begun : goal.returns-in_err-taken-2-clause-begun
returns-in_err-taken-2-clause-begun g c =
    let m = g.E.Entail.meaning c.loop-place.entail in
    let m' = g.E.Entail.meaning c.take_node-2.new.self in
    in_err c.from_residual-in_err-taken-2.result
    (nodes_still m m' (lists c.args.tree.now) c.loop-place.place c.in_err-taken-2.ensures.refused
    c.loop-place.invariant.open')
