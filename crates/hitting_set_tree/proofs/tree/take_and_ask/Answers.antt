use Rattle.std.proofs.Common.{true, false}
use Rattle.justification_shrink.proofs.Shrinking.{keeps_on}
use Rattle.hitting_set_tree.specs.Tree.{lists}
use Rattle.hitting_set_tree.specs.Open.{TakesPath}
use Rattle.hitting_set_tree.proofs.Opening.{few_still, few_taken}
use Rattle.hitting_set_tree.proofs.Begun.{in_err, tree_later}
use Rattle.hitting_set_tree.proofs.Showing.{settled_open, all_shown_after}
use Rattle.hitting_set_tree.proofs.InBudget.{looks_after, fails_after}
use Rattle.hitting_set_tree.proofs.Settling.{node_still}
use Rattle.hitting_set_tree.proofs.Stepping.{keeps_listed, step_spent}
use Rattle.hitting_set_tree.proofs.tree.take_and_ask.Goals as goal

pub returns-then-not-taken-clause-open : goal.returns-then-not-taken-clause-open
returns-then-not-taken-clause-open g c =
    let m' = g.E.Entail.meaning c.take_path.new.entail in
    let path : TakesPath m' (lists c.args.tree.now) c.args.node false =
    rw c.if-not-taken.true at c.in_ok-taken.ensures.taken in
    path.0

pub returns-then-not-taken-clause-step : goal.returns-then-not-taken-clause-step
returns-then-not-taken-clause-step g c =
    let m = g.E.Entail.meaning c.args.entail.now in
    let m' = g.E.Entail.meaning c.take_path.new.entail in
    let path : TakesPath m' (lists c.args.tree.now) c.args.node false =
    rw c.if-not-taken.true at c.in_ok-taken.ensures.taken in
    step_spent m' (lists c.args.tree.now) c.args.node
    (keeps_listed m m' (lists c.args.tree.now) c.take_path.ensures.keeps c.requires.listed) path.1
    (settled_open m' (lists c.args.tree.now) path.2) c.requires.outstanding

pub returns-then-not-taken-clause-asked : goal.returns-then-not-taken-clause-asked
returns-then-not-taken-clause-asked g c = few_still _ _ _ _ _ c.take_path.ensures.asks c.take_path.ensures.grown

pub ask_node-requires-clause-node : goal.ask_node-requires-clause-node
ask_node-requires-clause-node g c =
    node_still (g.E.Entail.meaning c.args.entail.now) (g.E.Entail.meaning c.take_path.new.entail) c.args.node
    c.take_path.ensures.keeps c.requires.node

pub ask_node-requires-clause-listed : goal.ask_node-requires-clause-listed
ask_node-requires-clause-listed g c =
    keeps_listed (g.E.Entail.meaning c.args.entail.now) (g.E.Entail.meaning c.take_path.new.entail)
    (lists c.args.tree.now) c.take_path.ensures.keeps c.requires.listed

pub ask_node-requires-clause-pending : goal.ask_node-requires-clause-pending
ask_node-requires-clause-pending g c =
    let m' = g.E.Entail.meaning c.take_path.new.entail in
    let path : TakesPath m' (lists c.args.tree.now) c.args.node true =
    rw c.if-not-taken.false at c.in_ok-taken.ensures.taken in
    path

pub returns-clause-keeps : goal.returns-clause-keeps
returns-clause-keeps g c =
    keeps_on (g.E.Entail.meaning c.args.entail.now) (g.E.Entail.meaning c.take_path.new.entail)
    (g.E.Entail.meaning c.ask_node.new.entail) c.take_path.ensures.keeps c.ask_node.ensures.keeps

pub returns-clause-asked : goal.returns-clause-asked
returns-clause-asked g c =
    let m = g.E.Entail.meaning c.args.entail.now in
    let m1 = g.E.Entail.meaning c.take_path.new.entail in
    let m2 = g.E.Entail.meaning c.ask_node.new.entail in
    few_taken m m1 m2 c.take_path.ensures.asks c.take_path.ensures.keeps.same_size
    (c.in_ok-taken.ensures.more c.if-not-taken.false) c.ask_node.ensures.taken c.ask_node.ensures.asked

pub returns-in_err-taken-clause-begun : goal.returns-in_err-taken-clause-begun
returns-in_err-taken-clause-begun g c =
    in_err c.from_residual.result
    (tree_later (g.E.Entail.meaning c.args.entail.now) (g.E.Entail.meaning c.take_path.new.entail)
    (lists c.args.tree.now) c.take_path.ensures.keeps c.requires.listed c.in_err-taken.ensures.begun)

pub returns-in_err-taken-clause-asked : goal.returns-in_err-taken-clause-asked
returns-in_err-taken-clause-asked g c = few_still _ _ _ _ _ c.take_path.ensures.asks c.take_path.ensures.grown

pub returns-clause-shown : goal.returns-clause-shown
returns-clause-shown g c =
    all_shown_after (g.E.Entail.meaning c.args.entail.now) (g.E.Entail.meaning c.take_path.new.entail)
    (g.E.Entail.meaning c.ask_node.new.entail) (lists c.ask_node.new.tree).justifications
    c.take_path.ensures.shown c.ask_node.result c.ask_node.ensures.shown

pub returns-clause-in_budget : goal.returns-clause-in_budget
returns-clause-in_budget g c =
    looks_after (g.E.Entail.meaning c.args.entail.now) (g.E.Entail.meaning c.take_path.new.entail)
    (g.E.Entail.meaning c.ask_node.new.entail) c.take_path.ensures.ran_out c.ask_node.result
    c.ask_node.ensures.in_budget

pub returns-clause-ran_out : goal.returns-clause-ran_out
returns-clause-ran_out g c =
    fails_after (g.E.Entail.meaning c.args.entail.now) (g.E.Entail.meaning c.take_path.new.entail)
    (g.E.Entail.meaning c.ask_node.new.entail) c.take_path.ensures.ran_out c.ask_node.result
    c.ask_node.ensures.ran_out
