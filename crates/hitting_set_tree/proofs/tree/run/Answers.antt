use Rattle.std.proofs.Common.{◌≡◌, ◌∙◌, ◌+◌, ◌≤◌, ◌++◌, ◌∷◌, [], List, true, false, ap, arith, subst}
use Rattle.justification_shrink.proofs.Shrinking.{keeps_on}
use Rattle.hitting_set_tree.specs.declared.frames.Frame.{Frame}
use Rattle.hitting_set_tree.specs.Weight.{weight, frame_weight}
use Rattle.hitting_set_tree.specs.Tree.{Lists, lists, with_frame, HoldsLists, IsCovered, LooksInBudget}
use Rattle.hitting_set_tree.specs.Open.{HasOpen, StaysOpen}
use Rattle.hitting_set_tree.proofs.Opening.{few_on}
use Rattle.hitting_set_tree.proofs.Stepping.{unlisted, last_frame, uncovered, weight_push}
use Rattle.hitting_set_tree.proofs.Finding.{closes_ended, grown_spent}
use Rattle.hitting_set_tree.proofs.Showing.{shown_on}
use Rattle.hitting_set_tree.proofs.tree.run.Goals as goal

pub look_on-requires-clause-frame : goal.look_on-requires-clause-frame
look_on-requires-clause-frame g c =
    let m = g.E.Entail.meaning c.loop-frame.entail in
    let tree = c.loop-frame.tree in
    let ls : Lists =
    record { justifications = tree.justifications.items; leaves = tree.leaves.items; frames = c.pop.new.self.items } in
    let popped : tree.frames.items ≡ c.pop.new.self.items ++ c.in-Some.frame ∷ [] = c.in-Some.ensures.items in
    let listed : HoldsLists m (with_frame ls c.in-Some.frame) =
    subst
    (λ (fs : List Frame). HoldsLists m (record { justifications = ls.justifications; leaves = ls.leaves; frames = fs }))
    popped c.loop-frame.invariant.listed in
    last_frame m ls c.in-Some.frame listed

pub look_on-requires-clause-listed : goal.look_on-requires-clause-listed
look_on-requires-clause-listed g c =
    let m = g.E.Entail.meaning c.loop-frame.entail in
    let tree = c.loop-frame.tree in
    let ls : Lists =
    record { justifications = tree.justifications.items; leaves = tree.leaves.items; frames = c.pop.new.self.items } in
    let popped : tree.frames.items ≡ c.pop.new.self.items ++ c.in-Some.frame ∷ [] = c.in-Some.ensures.items in
    let listed : HoldsLists m (with_frame ls c.in-Some.frame) =
    subst
    (λ (fs : List Frame). HoldsLists m (record { justifications = ls.justifications; leaves = ls.leaves; frames = fs }))
    popped c.loop-frame.invariant.listed in
    unlisted m ls c.in-Some.frame listed

pub look_on-requires-clause-open : goal.look_on-requires-clause-open
look_on-requires-clause-open g c =
    let m = g.E.Entail.meaning c.loop-frame.entail in
    let tree = c.loop-frame.tree in
    let popped : tree.frames.items ≡ c.pop.new.self.items ++ c.in-Some.frame ∷ [] = c.in-Some.ensures.items in
    subst (λ (fs : List Frame). HasOpen m.taken
    (record { justifications = tree.justifications.items; leaves = tree.leaves.items; frames = fs }) tree.rooted)
    popped c.loop-frame.invariant.open'

pub loop-frame-smaller : goal.loop-frame-smaller
loop-frame-smaller g c =
    let tree = c.loop-frame.tree in
    let popped : tree.frames.items ≡ c.pop.new.self.items ++ c.in-Some.frame ∷ [] = c.in-Some.ensures.items in
    let lighter : weight c.look_on.new.tree.frames.items + 1
    ≤ weight c.pop.new.self.items + frame_weight c.in-Some.frame =
    c.in_ok-went_on.ensures.step.lighter c.if-not-went_on.false in
    let split : weight tree.frames.items ≡ weight c.pop.new.self.items + frame_weight c.in-Some.frame =
    ap weight popped ∙ weight_push c.pop.new.self.items c.in-Some.frame in
    omega (arith, lighter, split)

pub loop-frame-preserved : goal.loop-frame-preserved
loop-frame-preserved g c =
    let m0 = g.E.Entail.meaning c.args.entail.now in
    let m = g.E.Entail.meaning c.loop-frame.entail in
    let m' = g.E.Entail.meaning c.look_on.new.entail in
    let tree = c.loop-frame.tree in
    let tree' = c.look_on.new.tree in
    let ls : Lists =
    record { justifications = tree.justifications.items; leaves = tree.leaves.items; frames = c.pop.new.self.items } in
    let popped : tree.frames.items ≡ c.pop.new.self.items ++ c.in-Some.frame ∷ [] = c.in-Some.ensures.items in
    let covered : IsCovered (with_frame ls c.in-Some.frame) (λ _. ⊥) =
    subst (λ (fs : List Frame). IsCovered
    (record { justifications = ls.justifications; leaves = ls.leaves; frames = fs }) (λ _. ⊥))
    popped c.loop-frame.invariant.covered in
    let open' : StaysOpen m'.taken (lists tree') tree'.rooted true =
    rw c.if-not-went_on.false at c.in_ok-went_on.ensures.open in
    let in_budget : LooksInBudget m m' true = rw c.if-not-went_on.false at c.in_ok-went_on.ensures.in_budget in
    let step = c.in_ok-went_on.ensures.step in
    record {
      keeps = keeps_on m0 m m' c.loop-frame.invariant.keeps c.look_on.ensures.keeps;
      listed = step.listed;
      open' = open';
      covered = step.covered c.if-not-went_on.false (uncovered ls c.in-Some.frame covered);
      shown =
          shown_on m0 m m' tree.justifications.items (lists tree').justifications true step.grows
          c.loop-frame.invariant.shown (rw c.if-not-went_on.false at c.in_ok-went_on.ensures.shown);
      grows = λ j at. step.grows j (c.loop-frame.invariant.grows j at);
      order = c.in_ok-went_on.ensures.order;
      ran_out = in_budget ∙ c.loop-frame.invariant.ran_out;
      asked =
          few_on m0 m m' m0.size m.size c.loop-frame.invariant.keeps.same_size c.loop-frame.invariant.asked
          c.look_on.ensures.asked;
      same = c.look_on.ensures.same ∙ c.loop-frame.invariant.same;
    }

pub returns-in_err-went_on-clause-keeps : goal.returns-in_err-went_on-clause-keeps
returns-in_err-went_on-clause-keeps g c =
    keeps_on (g.E.Entail.meaning c.args.entail.now) (g.E.Entail.meaning c.loop-frame.entail)
    (g.E.Entail.meaning c.look_on.new.entail) c.loop-frame.invariant.keeps c.look_on.ensures.keeps

pub returns-then-not-went_on-clause-keeps : goal.returns-then-not-went_on-clause-keeps
returns-then-not-went_on-clause-keeps g c =
    keeps_on (g.E.Entail.meaning c.args.entail.now) (g.E.Entail.meaning c.loop-frame.entail)
    (g.E.Entail.meaning c.look_on.new.entail) c.loop-frame.invariant.keeps c.look_on.ensures.keeps

pub returns-then-not-went_on-clause-closed : goal.returns-then-not-went_on-clause-closed
returns-then-not-went_on-clause-closed g c =
    let m' = g.E.Entail.meaning c.look_on.new.entail in
    let tree' = c.look_on.new.tree in
    let end : StaysOpen m'.taken (lists tree') tree'.rooted false =
    rw c.if-not-went_on.true at c.in_ok-went_on.ensures.open in
    closes_ended m'.taken (lists tree') end

pub returns-then-not-went_on-clause-grown : goal.returns-then-not-went_on-clause-grown
returns-then-not-went_on-clause-grown g c =
    let step = c.in_ok-went_on.ensures.step in
    grown_spent (g.E.Entail.meaning c.look_on.new.entail) (lists c.look_on.new.tree) step.listed
    (step.spent c.if-not-went_on.true) (step.lacks c.if-not-went_on.true) (step.left_open c.if-not-went_on.true)

pub returns-then-not-went_on-clause-asked : goal.returns-then-not-went_on-clause-asked
returns-then-not-went_on-clause-asked g c =
    let m0 = g.E.Entail.meaning c.args.entail.now in
    let m = g.E.Entail.meaning c.loop-frame.entail in
    let m' = g.E.Entail.meaning c.look_on.new.entail in
    few_on m0 m m' m0.size m.size c.loop-frame.invariant.keeps.same_size c.loop-frame.invariant.asked
    c.look_on.ensures.asked

pub returns-in_err-went_on-clause-asked : goal.returns-in_err-went_on-clause-asked
returns-in_err-went_on-clause-asked g c =
    let m0 = g.E.Entail.meaning c.args.entail.now in
    let m = g.E.Entail.meaning c.loop-frame.entail in
    let m' = g.E.Entail.meaning c.look_on.new.entail in
    few_on m0 m m' m0.size m.size c.loop-frame.invariant.keeps.same_size c.loop-frame.invariant.asked
    c.look_on.ensures.asked

pub returns-then-not-went_on-clause-shown : goal.returns-then-not-went_on-clause-shown
returns-then-not-went_on-clause-shown g c =
    let m0 = g.E.Entail.meaning c.args.entail.now in
    let m = g.E.Entail.meaning c.loop-frame.entail in
    let m' = g.E.Entail.meaning c.look_on.new.entail in
    let step = c.in_ok-went_on.ensures.step in
    shown_on m0 m m' c.loop-frame.tree.justifications.items (lists c.look_on.new.tree).justifications false step.grows
    c.loop-frame.invariant.shown (rw c.if-not-went_on.true at c.in_ok-went_on.ensures.shown)

pub returns-then-not-went_on-clause-grows : goal.returns-then-not-went_on-clause-grows
returns-then-not-went_on-clause-grows g c =
    λ j at. c.in_ok-went_on.ensures.step.grows j (c.loop-frame.invariant.grows j at)
