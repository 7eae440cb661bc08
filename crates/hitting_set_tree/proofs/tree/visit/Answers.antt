use Rattle.std.proofs.Common.{◌≡◌, ◌∙◌, ◌<◌, List, length, get_or, true, sym, subst}
use Rattle.std.specs.List.{Contains, All}
use Rattle.std.proofs.lemmas.List.Elements.{Contains-get_or}
use Rattle.lane_sieve.specs.Sets.{IsPart, DoMeet}
use Rattle.axiom_sets.specs.Sets.{Limited}
use Rattle.hitting_set_tree.specs.declared.frames.Frame.{Frame}
use Rattle.hitting_set_tree.specs.Territory.{InNode}
use Rattle.hitting_set_tree.specs.Weight.{node_weight}
use Rattle.hitting_set_tree.specs.Tree.{Lists, IsStep}
use Rattle.hitting_set_tree.specs.Open.{HasOpen}
use Rattle.hitting_set_tree.proofs.Opening.{frame_open}
use Rattle.hitting_set_tree.proofs.Stepping.{step_pruned, step_frame, all_limits, some_of, outstanding, if_nothing}
use Rattle.hitting_set_tree.proofs.Stepping.{if_not_some}
use Rattle.hitting_set_tree.specs.Tree.{lists}
use Rattle.hitting_set_tree.proofs.Begun.{in_err, open_tree}
use Rattle.hitting_set_tree.proofs.tree.visit.Goals as goal

pub place_of_part-requires : goal.place_of_part-requires
place_of_part-requires g c =
    subst (λ (xs : List Limited). All (λ s. s.limit ≡ c.args.node.hit.limit) xs) (sym c.deref-2.ensures.value)
    (all_limits c.args.tree.now.leaves.items _ _ c.requires.listed.leaf_limits c.requires.node.hit_limit)

pub returns-then-is_some-clause-step : goal.returns-then-is_some-clause-step
returns-then-is_some-clause-step g c =
    let m = g.E.Entail.meaning c.args.entail.now in
    let tree = c.args.tree.now in
    let ls : Lists =
    record { justifications = tree.justifications.items; leaves = tree.leaves.items; frames = tree.frames.items } in
    let hit = c.args.node.hit in
    let found =
    some_of c.place_of_part.result (λ n. n < length c.deref-2.result.now)
    (λ n. IsPart (get_or c.deref-2.result.now n hit).members hit.members) (sym c.is_some.ensures ∙ c.if-is_some.true)
    c.place_of_part.ensures.some c.place_of_part.ensures.part in
    let leaf = get_or c.deref-2.result.now found.0 hit in
    step_pruned m ls c.args.node c.requires.listed (
      leaf,
      subst (λ (xs : List Limited). Contains xs leaf) c.deref-2.ensures.value
          (Contains-get_or c.deref-2.result.now found.0 hit found.1),
      found.2,
    )

pub place_apart-requires : goal.place_apart-requires
place_apart-requires g c =
    subst (λ (xs : List Limited). All (λ s. s.limit ≡ c.args.node.hit.limit) xs) (sym c.deref.ensures.value)
    (all_limits c.args.tree.now.justifications.items _ _ c.requires.listed.just_limits c.requires.node.hit_limit)

pub frame_by-requires-clause-limits : goal.frame_by-requires-clause-limits
frame_by-requires-clause-limits g c =
    subst (λ (xs : List Limited). All (λ s. s.limit ≡ c.args.node.hit.limit) xs) (sym c.deref-in-Some.ensures.value)
    (all_limits c.args.tree.now.justifications.items _ _ c.requires.listed.just_limits c.requires.node.hit_limit)

pub returns-in-Some-clause-step : goal.returns-in-Some-clause-step
returns-in-Some-clause-step g c =
    let m = g.E.Entail.meaning c.args.entail.now in
    let tree = c.args.tree.now in
    let ls : Lists =
    record { justifications = tree.justifications.items; leaves = tree.leaves.items; frames = tree.frames.items } in
    let found = c.in_ok-frame.ensures in
    subst (λ (fs : List Frame). IsStep m ls
    (record { justifications = ls.justifications; leaves = ls.leaves; frames = fs }) (InNode c.args.node)
    (node_weight c.args.node) true)
    (sym c.in_ok-push.ensures.items)
    (step_frame m ls c.args.node c.requires.listed found.0 c.in_ok-frame.frame c.requires.node.hit_limit
    (subst (λ (xs : List Limited). Contains xs found.0) c.deref-in-Some.ensures.value found.1) found.2)

pub returns-in-Some-clause-open : goal.returns-in-Some-clause-open
returns-in-Some-clause-open g c =
    let m = g.E.Entail.meaning c.args.entail.now in
    let tree = c.args.tree.now in
    let ls : Lists =
    record { justifications = tree.justifications.items; leaves = tree.leaves.items; frames = tree.frames.items } in
    let found = c.in_ok-frame.ensures in
    let state = c.requires.open in
    subst (λ (fs : List Frame). HasOpen m.taken
    (record { justifications = ls.justifications; leaves = ls.leaves; frames = fs }) tree.rooted)
    (sym c.in_ok-push.ensures.items) (
      state.0,
      frame_open m.taken ls tree.rooted state.0 c.args.node found.0 c.in_ok-frame.frame state.1 c.requires.beside
          (subst (λ (xs : List Limited). Contains xs found.0) c.deref-in-Some.ensures.value found.1) found.2,
    )

pub take_and_ask-requires-clause-outstanding : goal.take_and_ask-requires-clause-outstanding
take_and_ask-requires-clause-outstanding g c =
    let hit = c.args.node.hit in
    let tree = c.args.tree.now in
    let ls : Lists =
    record { justifications = tree.justifications.items; leaves = tree.leaves.items; frames = tree.frames.items } in
    outstanding ls c.args.node c.deref.result.now c.deref-2.result.now c.deref.ensures.value c.deref-2.ensures.value
    (if_nothing c.place_apart.result (All (λ s. DoMeet s.members hit.members) c.deref.result.now) c.in_default.not-Some
    c.place_apart.ensures.none)
    (if_not_some c.place_of_part.result (All (λ s. ¬ IsPart s.members hit.members) c.deref-2.result.now)
    (sym c.is_some.ensures ∙ c.if-is_some.false) c.place_of_part.ensures.none)

pub returns-in_err-frame-clause-begun : goal.returns-in_err-frame-clause-begun
returns-in_err-frame-clause-begun g c =
    in_err c.from_residual.result
    (open_tree (g.E.Entail.meaning c.args.entail.now) (lists c.args.tree.now) c.args.tree.now.rooted c.requires.listed
    c.requires.open)

pub returns-in_err-push-clause-begun : goal.returns-in_err-push-clause-begun
returns-in_err-push-clause-begun g c =
    in_err c.from_residual-in_err-push.result
    (open_tree (g.E.Entail.meaning c.args.entail.now) (lists c.args.tree.now) c.args.tree.now.rooted c.requires.listed
    c.requires.open)
