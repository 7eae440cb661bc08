use Rattle.std.proofs.Common.{◌∙◌, refl}
use Rattle.set_questions.proofs.Ordered.{none_in_order}
use Rattle.hitting_set_tree.specs.declared.tree.Found.{Found}
use Rattle.hitting_set_tree.specs.Tree.{lists}
use Rattle.hitting_set_tree.proofs.Begun.{in_err, no_tree}
use Rattle.hitting_set_tree.proofs.Finding.{found_lists, shown_same}
use Rattle.hitting_set_tree.proofs.Stepping.{root_covered, none_in}
use Rattle.hitting_set_tree.proofs.tree.enumerate.Goals as goal

pub grow-requires-clause-node : goal.grow-requires-clause-node
grow-requires-clause-node g c =
    record {
      hit_limit = c.in_ok-empty.ensures.limit ∙ c.count-count.ensures;
      barred_limit = c.in_ok-empty-2.ensures.limit ∙ c.count-count.ensures;
      apart = λ k h. absurd (none_in c.in_ok-empty.field-0.members c.in_ok-empty.ensures.members k h);
    }

pub grow-requires-clause-order : goal.grow-requires-clause-order
grow-requires-clause-order g c = rw (c.new.ensures.items, c.new-2.ensures.items) none_in_order

pub grow-requires-clause-covered : goal.grow-requires-clause-covered
grow-requires-clause-covered g c =
    rw (c.new.ensures.items, c.new-3.ensures.items, c.new-4.ensures.items)
    (root_covered (record { hit = c.in_ok-empty.field-0; barred = c.in_ok-empty-2.field-0 })
    c.in_ok-empty.ensures.members c.in_ok-empty-2.ensures.members)

pub returns-clause-found : goal.returns-clause-found
returns-clause-found g c =
    let m = g.E.Entail.meaning c.grow.new.entail in
    let tree = c.grow.new.tree in
    let f : Found =
    record { justifications = tree.ordered; leaves = tree.leaves; finished = c.in_ok-finished.finished } in
    let order = c.in_ok-finished.ensures.order in
    found_lists m (lists tree) f (g.met.E.Entail.grows c.grow.new.entail) order.order order.same refl
    c.in_ok-finished.ensures.closed c.in_ok-finished.ensures.grown

pub returns-in_err-empty-clause-begun : goal.returns-in_err-empty-clause-begun
returns-in_err-empty-clause-begun g c =
    in_err c.from_residual.result (no_tree (g.E.Entail.meaning c.args.entail.now) c.requires)

pub returns-clause-shown : goal.returns-clause-shown
returns-clause-shown g c =
    let tree = c.grow.new.tree in
    shown_same tree.justifications.items tree.ordered.items c.in_ok-finished.ensures.order.same
    (g.E.Entail.meaning c.args.entail.now) (g.E.Entail.meaning c.grow.new.entail) c.in_ok-finished.finished
    c.in_ok-finished.ensures.shown
