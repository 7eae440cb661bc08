use Rattle.std.proofs.Common.{◌∙◌, List, sym, subst, arith, inl, inr}
use Rattle.axiom_sets.specs.Sets.{Limited}
use Rattle.justification_shrink.specs.Shrunk.{ShrinksTo, LosesNothing}
use Rattle.justification_shrink.specs.declared.Shrunk.TheVariants.{Smallest, Spent}
use Rattle.hitting_set_tree.specs.Tree.{lists}
use Rattle.hitting_set_tree.specs.Open.{HasOpen, HasPending, IsEnded}
use Rattle.hitting_set_tree.proofs.Opening.{ended_pending}
use Rattle.hitting_set_tree.proofs.Settling.{own_limit, node_still, few_in_rest, labelled_step, labelled_open}
use Rattle.hitting_set_tree.proofs.Stepping.{keeps_listed, apart_from_rest, step_spent}
use Rattle.hitting_set_tree.proofs.Begun.{in_err, pending_later}
use Rattle.hitting_set_tree.proofs.Showing.{pending_open, rest_holds, shown_label, label_found, shown_cut, cut_found}
use Rattle.hitting_set_tree.proofs.tree.label_node.Goals as goal

pub add_label-requires-clause-node : goal.add_label-requires-clause-node
add_label-requires-clause-node g c = own_limit _ c.args.node c.requires.node

pub add_label-requires-clause-limit : goal.add_label-requires-clause-limit
add_label-requires-clause-limit g c =
    let m' = g.E.Entail.meaning c.shrink.new.entail in
    let shrunk : ShrinksTo m' c.args.part.now (Smallest c.in-Smallest.just) =
    rw c.in-Smallest.is at c.in_ok-just.ensures.shrunk in
    shrunk.0 ∙ c.requires.part.0

pub add_label-requires-clause-apart : goal.add_label-requires-clause-apart
add_label-requires-clause-apart g c =
    let m' = g.E.Entail.meaning c.shrink.new.entail in
    let shrunk : ShrinksTo m' c.args.part.now (Smallest c.in-Smallest.just) =
    rw c.in-Smallest.is at c.in_ok-just.ensures.shrunk in
    apart_from_rest c.args.node.hit c.args.part.now.members c.in-Smallest.just.members shrunk.1 c.requires.part.1

pub add_label-requires-clause-limits : goal.add_label-requires-clause-limits
add_label-requires-clause-limits g c =
    let m' = g.E.Entail.meaning c.shrink.new.entail in
    let shrunk : ShrinksTo m' c.args.part.now (Smallest c.in-Smallest.just) =
    rw c.in-Smallest.is at c.in_ok-just.ensures.shrunk in
    λ s at. c.requires.listed.just_limits s at ∙ sym c.requires.node.hit_limit ∙ sym (shrunk.0 ∙ c.requires.part.0)

pub returns-in_ok-add_label-in-Smallest-clause-step : goal.returns-in_ok-add_label-in-Smallest-clause-step
returns-in_ok-add_label-in-Smallest-clause-step g c =
    let m = g.E.Entail.meaning c.args.entail.now in
    let m' = g.E.Entail.meaning c.shrink.new.entail in
    let keeps = c.shrink.ensures.keeps in
    let shrunk : ShrinksTo m' c.args.part.now (Smallest c.in-Smallest.just) =
    rw c.in-Smallest.is at c.in_ok-just.ensures.shrunk in
    let good = node_still m m' c.args.node keeps c.requires.node in
    let shown : m'.shown_yes c.in-Smallest.just.members = elim shrunk.3 [
      | inl e ↦ subst m'.shown_yes (sym e) (keeps.keeps_yes c.args.part.now.members c.requires.part.3)
      | inr s ↦ s
    ] in
    labelled_step (lists c.args.tree.now) (lists c.add_label.new.tree) c.add_label.new.tree.rooted c.args.node m' good
    (keeps_listed m m' (lists c.args.tree.now) keeps c.requires.listed) c.in-Smallest.just
    c.in_ok-add_label-in-Smallest.ensures.added
    (shrunk.0 ∙ c.requires.part.0 ∙ good.hit_limit) shrunk.2 shown

pub returns-in_ok-add_label-in-Smallest-clause-open : goal.returns-in_ok-add_label-in-Smallest-clause-open
returns-in_ok-add_label-in-Smallest-clause-open g c =
    let m = g.E.Entail.meaning c.args.entail.now in
    let new = c.add_label.new.tree in
    subst (λ (t : List Limited). HasOpen t (lists new) new.rooted) (sym c.shrink.ensures.taken)
    (labelled_open (lists c.args.tree.now) (lists new) new.rooted c.args.node m.taken c.requires.pending
    c.in-Smallest.just
    c.in_ok-add_label-in-Smallest.ensures.added)

pub returns-in_ok-add_label-in-Smallest-clause-asked : goal.returns-in_ok-add_label-in-Smallest-clause-asked
returns-in_ok-add_label-in-Smallest-clause-asked g c = omega (
  arith,
  c.shrink.ensures.asked,
  few_in_rest c.args.node.hit c.args.part.now (g.E.Entail.meaning c.args.entail.now).size c.requires.part.1
      c.requires.part.0 c.requires.node.hit_limit,
)

pub returns-in-Spent-clause-step : goal.returns-in-Spent-clause-step
returns-in-Spent-clause-step g c =
    let m = g.E.Entail.meaning c.args.entail.now in
    let m' = g.E.Entail.meaning c.shrink.new.entail in
    let spent : ShrinksTo m' c.args.part.now Spent = rw c.in-Spent.is at c.in_ok-just.ensures.shrunk in
    let pending =
    subst (λ (t : List Limited). HasPending t (lists c.args.tree.now) c.args.node) (sym c.shrink.ensures.taken)
    c.requires.pending in
    let rest =
    rest_holds m m' c.args.node c.args.part.now c.shrink.ensures.keeps (g.met.E.Entail.grows c.shrink.new.entail)
    c.requires.part in
    step_spent m' (lists c.args.tree.now) c.args.node
    (keeps_listed m m' (lists c.args.tree.now) c.shrink.ensures.keeps c.requires.listed) spent
    (pending_open m' (lists c.args.tree.now) c.args.node pending (inl rest)) c.requires.outstanding

pub returns-in-Spent-clause-open : goal.returns-in-Spent-clause-open
returns-in-Spent-clause-open g c =
    let m = g.E.Entail.meaning c.args.entail.now in
    subst (λ (t : List Limited). IsEnded t (lists c.args.tree.now)) (sym c.shrink.ensures.taken)
    (ended_pending m.taken (lists c.args.tree.now) c.args.node c.requires.pending.0 c.requires.pending.1)

pub returns-in-Spent-clause-asked : goal.returns-in-Spent-clause-asked
returns-in-Spent-clause-asked g c = omega (
  arith,
  c.shrink.ensures.asked,
  few_in_rest c.args.node.hit c.args.part.now (g.E.Entail.meaning c.args.entail.now).size c.requires.part.1
      c.requires.part.0 c.requires.node.hit_limit,
)

pub returns-in_ok-add_label-in-Smallest-clause-shown : goal.returns-in_ok-add_label-in-Smallest-clause-shown
returns-in_ok-add_label-in-Smallest-clause-shown g c =
    let m = g.E.Entail.meaning c.args.entail.now in
    let m' = g.E.Entail.meaning c.shrink.new.entail in
    let above : LosesNothing m m' c.args.part.now (Smallest c.in-Smallest.just) =
    rw c.in-Smallest.is at c.in_ok-just.ensures.shown in
    shown_label m m' (lists c.args.tree.now) (lists c.add_label.new.tree) c.add_label.new.tree.rooted c.args.node
    c.args.part.now c.in-Smallest.just c.in_ok-add_label-in-Smallest.ensures.added above

pub returns-in_ok-add_label-in-Smallest-clause-named : goal.returns-in_ok-add_label-in-Smallest-clause-named
returns-in_ok-add_label-in-Smallest-clause-named g c =
    let m = g.E.Entail.meaning c.args.entail.now in
    let m' = g.E.Entail.meaning c.shrink.new.entail in
    let shrunk : ShrinksTo m' c.args.part.now (Smallest c.in-Smallest.just) =
    rw c.in-Smallest.is at c.in_ok-just.ensures.shrunk in
    label_found m m' (lists c.args.tree.now) (lists c.add_label.new.tree) c.add_label.new.tree.rooted c.args.node
    c.args.part.now c.in-Smallest.just c.in_ok-add_label-in-Smallest.ensures.added shrunk.1

pub returns-in-Spent-clause-shown : goal.returns-in-Spent-clause-shown
returns-in-Spent-clause-shown g c =
    let m = g.E.Entail.meaning c.args.entail.now in
    let m' = g.E.Entail.meaning c.shrink.new.entail in
    let cut : LosesNothing m m' c.args.part.now Spent = rw c.in-Spent.is at c.in_ok-just.ensures.shown in
    shown_cut m m' (lists c.args.tree.now).justifications c.args.part.now cut

pub returns-in-Spent-clause-named : goal.returns-in-Spent-clause-named
returns-in-Spent-clause-named g c =
    let m = g.E.Entail.meaning c.args.entail.now in
    let m' = g.E.Entail.meaning c.shrink.new.entail in
    let cut : LosesNothing m m' c.args.part.now Spent = rw c.in-Spent.is at c.in_ok-just.ensures.shown in
    cut_found m m' (lists c.args.tree.now).justifications c.args.part.now cut

pub returns-in_err-just-clause-begun : goal.returns-in_err-just-clause-begun
returns-in_err-just-clause-begun g c =
    in_err c.from_residual.result
    (pending_later (g.E.Entail.meaning c.args.entail.now) (g.E.Entail.meaning c.shrink.new.entail)
    (lists c.args.tree.now) c.args.node c.shrink.ensures.keeps c.shrink.ensures.taken c.requires.listed
    c.requires.pending)

pub returns-in_err-just-clause-asked : goal.returns-in_err-just-clause-asked
returns-in_err-just-clause-asked g c = omega (
  arith,
  c.shrink.ensures.asked,
  few_in_rest c.args.node.hit c.args.part.now (g.E.Entail.meaning c.args.entail.now).size c.requires.part.1
      c.requires.part.0 c.requires.node.hit_limit,
)

pub returns-in_err-add_label-in-Smallest-clause-begun : goal.returns-in_err-add_label-in-Smallest-clause-begun
returns-in_err-add_label-in-Smallest-clause-begun g c =
    in_err c.from_residual-in_err-add_label-in-Smallest.result
    (pending_later (g.E.Entail.meaning c.args.entail.now) (g.E.Entail.meaning c.shrink.new.entail)
    (lists c.args.tree.now) c.args.node c.shrink.ensures.keeps c.shrink.ensures.taken c.requires.listed
    c.requires.pending)

pub returns-in_err-add_label-in-Smallest-clause-asked : goal.returns-in_err-add_label-in-Smallest-clause-asked
returns-in_err-add_label-in-Smallest-clause-asked g c =
    omega (
      arith,
      c.shrink.ensures.asked,
      few_in_rest c.args.node.hit c.args.part.now (g.E.Entail.meaning c.args.entail.now).size c.requires.part.1
          c.requires.part.0 c.requires.node.hit_limit,
    )
