use Rattle.std.proofs.Common.{◌≡◌, ◌∙◌, ℕ, List, length, min, ap, sym, subst}
use Rattle.hitting_set_tree.specs.declared.frames.Frame.{Frame}
use Rattle.hitting_set_tree.specs.declared.frames.Look.TheVariants.{Done}
use Rattle.hitting_set_tree.specs.Territory.{IsFrame, InNode, Looks, IsNextChild}
use Rattle.hitting_set_tree.specs.Weight.{node_weight}
use Rattle.hitting_set_tree.specs.Tree.{Lists, lists, HoldsLists, IsStep}
use Rattle.hitting_set_tree.specs.Open.{HasOpen, IsBeside}
use Rattle.hitting_set_tree.proofs.Opening.{done_open, child_open, child_beside}
use Rattle.hitting_set_tree.proofs.Stepping.{listed_with, step_done, step_child}
use Rattle.hitting_set_tree.proofs.Begun.{in_err, tree_of}
use Rattle.hitting_set_tree.proofs.tree.look_on.Goals as goal

pub visit-requires-clause-listed : goal.visit-requires-clause-listed
visit-requires-clause-listed g c =
    let m = g.E.Entail.meaning c.args.entail.now in
    let tree = c.args.tree.now in
    let ls : Lists =
    record { justifications = tree.justifications.items; leaves = tree.leaves.items; frames = tree.frames.items } in
    let looks : IsNextChild c.args.frame c.next_child.new.frame c.in-Child.node =
    rw c.in-Child.is at c.in_ok-next_child.ensures in
    subst
    (λ (fs : List Frame). HoldsLists m (record { justifications = ls.justifications; leaves = ls.leaves; frames = fs }))
    (sym c.in_ok-push-in-Child.ensures.items)
    (listed_with m ls c.next_child.new.frame c.requires.listed
    (subst (λ (n : ℕ). IsFrame n c.next_child.new.frame) c.requires.frame.hit_limit looks.good))

pub returns-in-Done-clause-step : goal.returns-in-Done-clause-step
returns-in-Done-clause-step g c =
    let m = g.E.Entail.meaning c.args.entail.now in
    let tree = c.args.tree.now in
    let ls : Lists =
    record { justifications = tree.justifications.items; leaves = tree.leaves.items; frames = tree.frames.items } in
    let looks : Looks c.args.frame c.next_child.new.frame Done = rw c.in-Done.is at c.in_ok-next_child.ensures in
    step_done m ls c.args.frame c.next_child.new.frame c.requires.listed looks

pub returns-in_ok-went_on-in-Child-clause-step : goal.returns-in_ok-went_on-in-Child-clause-step
returns-in_ok-went_on-in-Child-clause-step g c =
    let m' = g.E.Entail.meaning c.visit.new.entail in
    let tree = c.args.tree.now in
    let ls : Lists =
    record { justifications = tree.justifications.items; leaves = tree.leaves.items; frames = tree.frames.items } in
    let after = c.visit.new.tree in
    let new : Lists =
    record { justifications = after.justifications.items; leaves = after.leaves.items; frames = after.frames.items } in
    let node = c.in-Child.node in
    let looks : IsNextChild c.args.frame c.next_child.new.frame node = rw c.in-Child.is at c.in_ok-next_child.ensures in
    step_child m' ls new c.args.frame c.next_child.new.frame node c.in_ok-went_on-in-Child.went_on looks
    (subst (λ (fs : List Frame). IsStep m'
    (record { justifications = ls.justifications; leaves = ls.leaves; frames = fs }) new (InNode node)
    (node_weight node) c.in_ok-went_on-in-Child.went_on)
    c.in_ok-push-in-Child.ensures.items c.in_ok-went_on-in-Child.ensures.step)

pub visit-requires-clause-open : goal.visit-requires-clause-open
visit-requires-clause-open g c =
    let m = g.E.Entail.meaning c.args.entail.now in
    let tree = c.args.tree.now in
    let ls : Lists =
    record { justifications = tree.justifications.items; leaves = tree.leaves.items; frames = tree.frames.items } in
    let next : IsNextChild c.args.frame c.next_child.new.frame c.in-Child.node =
    rw c.in-Child.is at c.in_ok-next_child.ensures in
    let state = c.requires.open in
    subst (λ (fs : List Frame). HasOpen m.taken
    (record { justifications = ls.justifications; leaves = ls.leaves; frames = fs }) tree.rooted)
    (sym c.in_ok-push-in-Child.ensures.items) (
      state.0,
      child_open m.taken ls tree.rooted state.0 c.args.frame state.1 c.next_child.new.frame c.in-Child.node next,
    )

pub visit-requires-clause-beside : goal.visit-requires-clause-beside
visit-requires-clause-beside g c =
    let m = g.E.Entail.meaning c.args.entail.now in
    let tree = c.args.tree.now in
    let ls : Lists =
    record { justifications = tree.justifications.items; leaves = tree.leaves.items; frames = tree.frames.items } in
    let next : IsNextChild c.args.frame c.next_child.new.frame c.in-Child.node =
    rw c.in-Child.is at c.in_ok-next_child.ensures in
    let state = c.requires.open in
    subst (λ (fs : List Frame). IsBeside m.taken fs c.in-Child.node) (sym c.in_ok-push-in-Child.ensures.items)
    (child_beside m.taken ls tree.rooted state.0 c.args.frame state.1 c.next_child.new.frame c.in-Child.node next)

pub returns-in-Done-clause-open : goal.returns-in-Done-clause-open
returns-in-Done-clause-open g c =
    let m = g.E.Entail.meaning c.args.entail.now in
    let tree = c.args.tree.now in
    let state = c.requires.open in
    let fewer : c.min-tree.result ≡ min tree.rooted (length tree.frames.items) =
    c.min-tree.ensures ∙ ap (λ (n : ℕ). min tree.rooted n) (c.len.ensures ∙ tree.frames.ok.0) in
    subst (λ (r : ℕ). HasOpen m.taken (lists tree) r) (sym fewer)
    (state.0, done_open m.taken (lists tree) tree.rooted state.0 c.args.frame state.1)

pub returns-in_err-next_child-clause-begun : goal.returns-in_err-next_child-clause-begun
returns-in_err-next_child-clause-begun g c =
    in_err c.from_residual.result
    (tree_of (g.E.Entail.meaning c.args.entail.now) (lists c.args.tree.now) c.requires.listed
    (c.requires.open.0, c.requires.open.1.tree))

pub returns-in_err-push-in-Child-clause-begun : goal.returns-in_err-push-in-Child-clause-begun
returns-in_err-push-in-Child-clause-begun g c =
    in_err c.from_residual-in_err-push-in-Child.result
    (tree_of (g.E.Entail.meaning c.args.entail.now) (lists c.args.tree.now) c.requires.listed
    (c.requires.open.0, c.requires.open.1.tree))
