use Rattle.std.proofs.Common.{inr}
use Rattle.set_questions.specs.Asked.{Answers, IsUnknownIf}
use Rattle.set_questions.specs.declared.entail.Reply.TheVariants.{No, Spent}
use Rattle.hitting_set_tree.specs.Tree.{lists, others}
use Rattle.hitting_set_tree.proofs.Opening.{ended_pending}
use Rattle.hitting_set_tree.proofs.Settling.{leaf_step, leaf_is_open}
use Rattle.hitting_set_tree.proofs.Stepping.{step_spent}
use Rattle.hitting_set_tree.proofs.Begun.{in_err, pending_tree}
use Rattle.hitting_set_tree.proofs.Showing.{pending_open}
use Rattle.hitting_set_tree.proofs.tree.settle.Goals as goal

pub returns-in_ok-add_leaf-in-No-clause-step : goal.returns-in_ok-add_leaf-in-No-clause-step
returns-in_ok-add_leaf-in-No-clause-step g c =
    let m = g.E.Entail.meaning c.args.entail.now in
    let answer : Answers m (others c.args.node) No = rw c.in-No.is at c.requires.answer in
    leaf_step (lists c.args.tree.now) (lists c.add_leaf.new.tree) c.add_leaf.new.tree.rooted c.args.node m
    c.requires.node c.requires.listed c.in_ok-add_leaf-in-No.ensures.added c.requires.within answer.0 answer.1

pub returns-in_ok-add_leaf-in-No-clause-open : goal.returns-in_ok-add_leaf-in-No-clause-open
returns-in_ok-add_leaf-in-No-clause-open g c =
    leaf_is_open (lists c.args.tree.now) (lists c.add_leaf.new.tree) c.add_leaf.new.tree.rooted c.args.node
    (g.E.Entail.meaning c.args.entail.now).taken c.requires.pending c.in_ok-add_leaf-in-No.ensures.added

pub returns-in-Spent-clause-step : goal.returns-in-Spent-clause-step
returns-in-Spent-clause-step g c =
    let m = g.E.Entail.meaning c.args.entail.now in
    let answer : Answers m (others c.args.node) Spent = rw c.in-Spent.is at c.requires.answer in
    let unknown : IsUnknownIf m (others c.args.node) Spent = rw c.in-Spent.is at c.requires.unknown in
    step_spent m (lists c.args.tree.now) c.args.node c.requires.listed answer
    (pending_open m (lists c.args.tree.now) c.args.node c.requires.pending (inr unknown)) c.requires.outstanding

pub returns-in-Spent-clause-open : goal.returns-in-Spent-clause-open
returns-in-Spent-clause-open g c =
    ended_pending (g.E.Entail.meaning c.args.entail.now).taken (lists c.args.tree.now) c.args.node c.requires.pending.0
    c.requires.pending.1

pub returns-in_err-add_leaf-in-No-clause-begun : goal.returns-in_err-add_leaf-in-No-clause-begun
returns-in_err-add_leaf-in-No-clause-begun g c =
    in_err c.from_residual.result
    (pending_tree (g.E.Entail.meaning c.args.entail.now) (lists c.args.tree.now) c.args.node c.requires.listed
    c.requires.pending)
