use Rattle.std.proofs.Common.{List, sym, subst}
use Rattle.justification_shrink.proofs.Shrinking.{keeps_on}
use Rattle.axiom_sets.specs.Sets.{Limited}
use Rattle.axiom_sets.proofs.Same.{same_limited}
use Rattle.set_questions.specs.Asked.{Answers, IsUnknownIf}
use Rattle.hitting_set_tree.specs.Tree.{lists, others}
use Rattle.hitting_set_tree.specs.Open.{HasPending}
use Rattle.hitting_set_tree.proofs.Opening.{asked_rest}
use Rattle.hitting_set_tree.proofs.Begun.{in_err, pending_tree, pending_later}
use Rattle.hitting_set_tree.proofs.Showing.{all_shown_asked}
use Rattle.hitting_set_tree.proofs.InBudget.{looks_answered, fails_answered}
use Rattle.hitting_set_tree.proofs.Settling.{node_still}
use Rattle.hitting_set_tree.proofs.Stepping.{keeps_listed}
use Rattle.hitting_set_tree.proofs.tree.ask_node.Goals as goal

pub settle-requires-clause-node : goal.settle-requires-clause-node
settle-requires-clause-node g c =
    node_still (g.E.Entail.meaning c.args.entail.now) (g.E.Entail.meaning c.ask.new.self) c.args.node
    c.ask.ensures.keeps c.requires.node

pub settle-requires-clause-listed : goal.settle-requires-clause-listed
settle-requires-clause-listed g c =
    keeps_listed (g.E.Entail.meaning c.args.entail.now) (g.E.Entail.meaning c.ask.new.self) (lists c.args.tree.now)
    c.ask.ensures.keeps c.requires.listed

pub settle-requires-clause-pending : goal.settle-requires-clause-pending
settle-requires-clause-pending g c =
    subst (λ (t : List Limited). HasPending t (lists c.args.tree.now) c.args.node) (sym c.ask.ensures.taken)
    c.requires.pending

pub settle-requires-clause-answer : goal.settle-requires-clause-answer
settle-requires-clause-answer g c =
    let m = g.E.Entail.meaning c.ask.new.self in
    let rest = c.in_ok-rest.rest in
    subst (λ (s : Limited). Answers m s c.in_ok-answer.answer)
    (same_limited rest (others c.args.node) c.in_ok-rest.ensures.limit c.in_ok-rest.ensures.members)
    c.in_ok-answer.ensures.answer

pub returns-clause-keeps : goal.returns-clause-keeps
returns-clause-keeps g c =
    keeps_on (g.E.Entail.meaning c.args.entail.now) (g.E.Entail.meaning c.ask.new.self)
    (g.E.Entail.meaning c.settle.new.entail) c.ask.ensures.keeps c.settle.ensures.keeps

pub returns-clause-asked : goal.returns-clause-asked
returns-clause-asked g c =
    let m = g.E.Entail.meaning c.args.entail.now in
    let m1 = g.E.Entail.meaning c.ask.new.self in
    let m2 = g.E.Entail.meaning c.settle.new.entail in
    asked_rest m m1 m2 c.in_ok-answer.ensures.counted c.ask.ensures.keeps.same_size c.settle.ensures.asked

pub returns-in_err-rest-clause-begun : goal.returns-in_err-rest-clause-begun
returns-in_err-rest-clause-begun g c =
    in_err c.from_residual.result
    (pending_tree (g.E.Entail.meaning c.args.entail.now) (lists c.args.tree.now) c.args.node c.requires.listed
    c.requires.pending)

pub returns-in_err-answer-clause-begun : goal.returns-in_err-answer-clause-begun
returns-in_err-answer-clause-begun g c =
    in_err c.from_residual-in_err-answer.result
    (pending_later (g.E.Entail.meaning c.args.entail.now) (g.E.Entail.meaning c.ask.new.self) (lists c.args.tree.now)
    c.args.node c.ask.ensures.keeps c.ask.ensures.taken c.requires.listed c.requires.pending)

pub settle-requires-clause-unknown : goal.settle-requires-clause-unknown
settle-requires-clause-unknown g c =
    let m = g.E.Entail.meaning c.ask.new.self in
    let rest = c.in_ok-rest.rest in
    subst (λ (s : Limited). IsUnknownIf m s c.in_ok-answer.answer)
    (same_limited rest (others c.args.node) c.in_ok-rest.ensures.limit c.in_ok-rest.ensures.members)
    c.in_ok-answer.ensures.unknown

pub returns-clause-shown : goal.returns-clause-shown
returns-clause-shown g c =
    all_shown_asked (g.E.Entail.meaning c.args.entail.now) (g.E.Entail.meaning c.ask.new.self)
    (g.E.Entail.meaning c.settle.new.entail) (lists c.settle.new.tree).justifications c.in_ok-answer.answer
    c.in_ok-answer.ensures.shown c.settle.result c.settle.ensures.named c.settle.ensures.shown

pub returns-clause-in_budget : goal.returns-clause-in_budget
returns-clause-in_budget g c =
    looks_answered (g.E.Entail.meaning c.args.entail.now) (g.E.Entail.meaning c.ask.new.self)
    (g.E.Entail.meaning c.settle.new.entail) c.in_ok-answer.answer c.in_ok-answer.ensures.in_budget c.settle.result
    c.settle.ensures.in_budget

pub returns-clause-ran_out : goal.returns-clause-ran_out
returns-clause-ran_out g c =
    fails_answered (g.E.Entail.meaning c.args.entail.now) (g.E.Entail.meaning c.ask.new.self)
    (g.E.Entail.meaning c.settle.new.entail) c.in_ok-answer.answer c.in_ok-answer.ensures.in_budget c.settle.result
    c.settle.ensures.ran_out
