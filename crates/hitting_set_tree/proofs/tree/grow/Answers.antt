use Rattle.std.proofs.Common.{true, false}
use Rattle.justification_shrink.proofs.Shrinking.{keeps_on}
use Rattle.hitting_set_tree.specs.Tree.{lists, ListsShown, LooksInBudget}
use Rattle.hitting_set_tree.specs.Open.{StaysOpen}
use Rattle.hitting_set_tree.proofs.Opening.{few_on}
use Rattle.hitting_set_tree.proofs.Finding.{closes_ended, grown_spent}
use Rattle.hitting_set_tree.proofs.Showing.{all_shown_on}
use Rattle.hitting_set_tree.proofs.InBudget.{looks_after, fails_after}
use Rattle.hitting_set_tree.proofs.tree.grow.Goals as goal

pub returns-then-not-went_on-clause-closed : goal.returns-then-not-went_on-clause-closed
returns-then-not-went_on-clause-closed g c =
    let m' = g.E.Entail.meaning c.visit.new.entail in
    let tree' = c.visit.new.tree in
    let end : StaysOpen m'.taken (lists tree') tree'.rooted false =
    rw c.if-not-went_on.true at c.in_ok-went_on.ensures.open in
    closes_ended m'.taken (lists tree') end

pub returns-then-not-went_on-clause-grown : goal.returns-then-not-went_on-clause-grown
returns-then-not-went_on-clause-grown g c =
    let step = c.in_ok-went_on.ensures.step in
    grown_spent (g.E.Entail.meaning c.visit.new.entail) (lists c.visit.new.tree) step.listed
    (step.spent c.if-not-went_on.true) (step.lacks c.if-not-went_on.true) (step.left_open c.if-not-went_on.true)

pub run-requires-clause-open : goal.run-requires-clause-open
run-requires-clause-open g c =
    let m' = g.E.Entail.meaning c.visit.new.entail in
    let tree' = c.visit.new.tree in
    let open' : StaysOpen m'.taken (lists tree') tree'.rooted true =
    rw c.if-not-went_on.false at c.in_ok-went_on.ensures.open in
    open'

pub run-requires-clause-covered : goal.run-requires-clause-covered
run-requires-clause-covered g c = c.in_ok-went_on.ensures.step.covered c.if-not-went_on.false c.requires.covered

pub returns-clause-keeps : goal.returns-clause-keeps
returns-clause-keeps g c =
    keeps_on (g.E.Entail.meaning c.args.entail.now) (g.E.Entail.meaning c.visit.new.entail)
    (g.E.Entail.meaning c.run.new.entail) c.visit.ensures.keeps c.run.ensures.keeps

pub returns-clause-asked : goal.returns-clause-asked
returns-clause-asked g c =
    let m0 = g.E.Entail.meaning c.args.entail.now in
    let m = g.E.Entail.meaning c.visit.new.entail in
    let m' = g.E.Entail.meaning c.run.new.entail in
    few_on m0 m m' m0.size m.size c.visit.ensures.keeps.same_size c.visit.ensures.asked c.run.ensures.asked

pub returns-then-not-went_on-clause-shown : goal.returns-then-not-went_on-clause-shown
returns-then-not-went_on-clause-shown g c =
    let m = g.E.Entail.meaning c.args.entail.now in
    let m' = g.E.Entail.meaning c.visit.new.entail in
    let first : ListsShown m m' (lists c.visit.new.tree).justifications false =
    rw c.if-not-went_on.true at c.in_ok-went_on.ensures.shown in
    first

pub returns-clause-shown : goal.returns-clause-shown
returns-clause-shown g c =
    let m = g.E.Entail.meaning c.args.entail.now in
    let m' = g.E.Entail.meaning c.visit.new.entail in
    let first : ListsShown m m' (lists c.visit.new.tree).justifications true =
    rw c.if-not-went_on.false at c.in_ok-went_on.ensures.shown in
    all_shown_on m m' (g.E.Entail.meaning c.run.new.entail) (lists c.visit.new.tree).justifications
    (lists c.run.new.tree).justifications first c.run.result c.run.ensures.grows c.run.ensures.shown

pub returns-clause-in_budget : goal.returns-clause-in_budget
returns-clause-in_budget g c =
    let m = g.E.Entail.meaning c.args.entail.now in
    let m' = g.E.Entail.meaning c.visit.new.entail in
    let first : LooksInBudget m m' true = rw c.if-not-went_on.false at c.in_ok-went_on.ensures.in_budget in
    looks_after m m' (g.E.Entail.meaning c.run.new.entail) first c.run.result c.run.ensures.in_budget

pub returns-clause-ran_out : goal.returns-clause-ran_out
returns-clause-ran_out g c =
    let m = g.E.Entail.meaning c.args.entail.now in
    let m' = g.E.Entail.meaning c.visit.new.entail in
    let first : LooksInBudget m m' true = rw c.if-not-went_on.false at c.in_ok-went_on.ensures.in_budget in
    fails_after m m' (g.E.Entail.meaning c.run.new.entail) first c.run.result c.run.ensures.ran_out
