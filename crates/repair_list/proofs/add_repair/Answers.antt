use Rattle.std.proofs.Common.{◌∙◌, sym, subst}
use Rattle.std.proofs.lemmas.Bool.{true≢false}
use Rattle.axiom_sets.specs.Sets.{Limited}
use Rattle.hitting_set_tree.specs.InOrder.{HasMore}
use Rattle.repair_list.proofs.Alone.{put_alone, left_out}
use Rattle.repair_list.proofs.add_repair.Goals as goal

pub returns-then-not-alone-clause-added : goal.returns-then-not-alone-clause-added
returns-then-not-alone-clause-added c =
    left_out c.args.justifications.now c.args.list.now.items c.args.leaf.now
    (λ h. true≢false (sym (c.in_ok-alone.ensures.1 h) ∙ c.if-not-alone.true))

pub returns-clause-added : goal.returns-clause-added
returns-clause-added c =
    let list = c.args.list.now.items in
    let more = c.put_in_order.new.sets.items in
    put_alone c.args.justifications.now list more c.args.leaf.now
    (subst (λ (s : Limited). HasMore list s more) c.in_ok-try_clone.ensures c.in_ok-put_in_order.ensures.members)
    (c.in_ok-alone.ensures.0 c.if-not-alone.false)
