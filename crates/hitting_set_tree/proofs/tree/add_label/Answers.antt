use Rattle.std.proofs.Common.{◌≡◌, ◌∙◌, List, get_or, refl, sym, ap, subst}
use Rattle.std.proofs.lemmas.List.Elements.{Contains-get_or}
use Rattle.axiom_sets.specs.Sets.{Limited}
use Rattle.set_questions.specs.InOrder.{HasMore, AreInOrder}
use Rattle.set_questions.proofs.Ordered.{one_more_in_order}
use Rattle.hitting_set_tree.proofs.tree.add_label.Goals as goal

pub put_in_order-requires-clause-limits : goal.put_in_order-requires-clause-limits
put_in_order-requires-clause-limits c k d lt =
    let ordered = c.args.tree.now.ordered.items in
    let s = get_or ordered k d in
    c.requires.limits s ((c.requires.order.same s).0 (Contains-get_or ordered k d lt))
    ∙ ap (λ (t : Limited). t.limit) (sym c.in_ok-try_clone.ensures)

pub returns-clause-added : goal.returns-clause-added
returns-clause-added c = record {
  frame = c.in_ok-frame.frame;
  stands = c.in_ok-frame.ensures;
  justifications = c.in_ok-push.ensures.items;
  leaves = refl;
  frames = c.in_ok-push-2.ensures.items;
  all = c.len-tree.ensures ∙ c.push-2.new.self.ok.0;
}

pub returns-clause-order : goal.returns-clause-order
returns-clause-order c =
    let found = c.args.tree.now.justifications.items in
    let ordered = c.args.tree.now.ordered.items in
    let longer = c.put_in_order.new.sets.items in
    let more : HasMore ordered c.args.just longer =
    subst (λ (s : Limited). HasMore ordered s longer) c.in_ok-try_clone.ensures c.in_ok-put_in_order.ensures.members in
    subst (λ (sets : List Limited). AreInOrder sets longer) (sym c.in_ok-push.ensures.items)
    (one_more_in_order found ordered longer c.args.just c.requires.order c.in_ok-put_in_order.ensures.order more)
