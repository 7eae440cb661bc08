use Rattle.std.proofs.Common.{subst}
use Rattle.axiom_sets.specs.Sets.{Limited}
use Rattle.set_questions.specs.InOrder.{HasMore}
use Rattle.audit_check.proofs.Found.{met_each, put_grows, put_limits, from_grown}
use Rattle.audit_check.proofs.search.put_found.Goals as goal

pub returns-clause-found_limits : goal.returns-clause-found_limits
returns-clause-found_limits c =
    let old = c.args.found.now.items in
    let new = c.put_in_order.new.sets.items in
    put_limits c.args.hit.now.limit old new c.args.hit.now
    (subst (λ (s : Limited). HasMore old s new) c.in_ok-try_clone.ensures c.in_ok-put_in_order.ensures.members)
    (λ i. c.args.hit.now.limit) c.requires.found_limits

pub returns-clause-from : goal.returns-clause-from
returns-clause-from c =
    let sets = c.args.sets.now in
    let hit = c.args.hit.now in
    let old = c.args.found.now.items in
    let new = c.put_in_order.new.sets.items in
    from_grown sets hit c.args.barred.now old new
    (put_grows sets hit c.args.barred.now c.limit-limit.ensures.within (met_each sets hit c.requires.met)
    c.requires.alone c.requires.apart old new
    (subst (λ (s : Limited). HasMore old s new) c.in_ok-try_clone.ensures c.in_ok-put_in_order.ensures.members))

pub returns-clause-grown : goal.returns-clause-grown
returns-clause-grown c =
    λ _.
    let sets = c.args.sets.now in
    let hit = c.args.hit.now in
    let old = c.args.found.now.items in
    let new = c.put_in_order.new.sets.items in
    put_grows sets hit c.args.barred.now c.limit-limit.ensures.within (met_each sets hit c.requires.met)
    c.requires.alone c.requires.apart old new
    (subst (λ (s : Limited). HasMore old s new) c.in_ok-try_clone.ensures c.in_ok-put_in_order.ensures.members)
