use Rattle.std.proofs.Common.{◌≡◌, ◌<◌, Option, ◌∷◌, [], List, ℕ, length, refl, sym, ap, ◌∙◌, subst, arith, inl}
use Rattle.std.specs.Prelude.{IfSome}
use Rattle.std.specs.List.{Contains}
use Rattle.axiom_sets.specs.Sets.{Limited, member_list}
use Rattle.audit_check.specs.Territory.{IsUnmetAt, with_number}
use Rattle.audit_check.proofs.Growing.{first_ahead, listed_number}
use Rattle.audit_check.proofs.Found.{running_first, running_next, branch_apart, branch_falls, same_limits, limits_along}
use Rattle.audit_check.proofs.Found.{not_hit, with_number_alone, all_left_out, ahead_is, left_from}
use Rattle.audit_check.proofs.search.+put_transversals.Goals as goal

pub loop-number-init : goal.loop-number-init
loop-number-init t c =
    let listed : c.into_iter-number-iterator.result ≡ member_list c.in_ok-fitting.fitting =
    c.into_iter-number-iterator.ensures.into_iter_gives ∙ c.numbers-number-items.ensures.members in
    running_first c.args.sets.now c.args.hit.now c.args.barred.now c.in_ok-shut.shut c.in_ok-fitting.fitting
    c.into_iter-number-iterator.result c.args.found.now.items c.in_ok-shut.ensures c.requires.barred_limit listed
    c.requires.found_limits
    c.requires.order c.requires.apart
    (λ k at. ((c.in_ok-fitting.ensures.members k).0
    (listed_number c.in_ok-fitting.fitting k (subst (λ (xs : List ℕ). Contains xs k) listed at))).1)

pub with_number-requires-clause-low : goal.with_number-requires-clause-low
with_number-requires-clause-low t c =
    let u = c.in-Some-number.number in
    let listed : c.into_iter-number-iterator.result ≡ member_list c.in_ok-fitting.fitting =
    c.into_iter-number-iterator.ensures.into_iter_gives ∙ c.numbers-number-items.ensures.members in
    let from =
    c.loop-number.invariant.from u
    (first_ahead c.loop-number.number-iterator u c.next.new.self c.in-Some-number.ensures.steps) in
    (c.numbers-number-items.ensures.within u
    (listed_number c.in_ok-fitting.fitting u (subst (λ (xs : List ℕ). Contains xs u) listed from.0))).0

pub with_number-requires-clause-high : goal.with_number-requires-clause-high
with_number-requires-clause-high t c =
    let u = c.in-Some-number.number in
    let listed : c.into_iter-number-iterator.result ≡ member_list c.in_ok-fitting.fitting =
    c.into_iter-number-iterator.ensures.into_iter_gives ∙ c.numbers-number-items.ensures.members in
    let from =
    c.loop-number.invariant.from u
    (first_ahead c.loop-number.number-iterator u c.next.new.self c.in-Some-number.ensures.steps) in
    let high =
    (c.numbers-number-items.ensures.within u
    (listed_number c.in_ok-fitting.fitting u (subst (λ (xs : List ℕ). Contains xs u) listed from.0))).1 in
    omega (arith, high, c.in_ok-fitting.ensures.limit)

pub put_transversals-requires : goal.put_transversals-requires
put_transversals-requires t c =
    let sets = c.args.sets.now in
    let hit = c.args.hit.now in
    let more = c.in_ok-more.more in
    let n = c.in-Some.next in
    let u = c.in-Some-number.number in
    let unmet = c.index-sets-next.result in
    let listed : c.into_iter-number-iterator.result ≡ member_list c.in_ok-fitting.fitting =
    c.into_iter-number-iterator.ensures.into_iter_gives ∙ c.numbers-number-items.ensures.members in
    let from =
    c.loop-number.invariant.from u
    (first_ahead c.loop-number.number-iterator u c.next.new.self c.in-Some-number.ensures.steps) in
    let fits =
    (c.in_ok-fitting.ensures.members u).0
    (listed_number c.in_ok-fitting.fitting u (subst (λ (xs : List ℕ). Contains xs u) listed from.0)) in
    let limit = same_limits hit more u c.in_ok-more.ensures.more in
    let at = subst (λ (o : Option ℕ). IfSome o (IsUnmetAt sets hit)) c.in-Some.is c.in_ok-place.ensures.some in
    let lt : n < length sets = at.0 in
    let running =
    ahead_is sets hit c.args.barred.now c.loop-number.shut c.into_iter-number-iterator.result
    c.loop-number.number-iterator (u ∷ c.next.new.self) c.args.found.now.items c.loop-number.found.items
    c.in-Some-number.ensures.steps c.loop-number.invariant in
    let apart =
    branch_apart sets hit c.args.barred.now c.loop-number.shut c.into_iter-number-iterator.result u c.next.new.self
    c.args.found.now.items c.loop-number.found.items running more c.in_ok-more.ensures.more in
    let alone = with_number_alone sets hit more u c.in_ok-more.ensures.more fits.2 in
    let limits = limits_along hit.limit more.limit c.loop-number.found.items limit c.loop-number.invariant.limits in
    let lacks = not_hit sets hit unmet n lt c.index-sets-next.is at.1 u fits.0 in
    let high =
    (c.numbers-number-items.ensures.within u
    (listed_number c.in_ok-fitting.fitting u (subst (λ (xs : List ℕ). Contains xs u) listed from.0))).1 in
    let falls =
    branch_falls hit more u c.in_ok-more.ensures.more lacks (omega (arith, high, c.in_ok-fitting.ensures.limit))
    c.in_ok-more.ensures.within in (
      omega (arith, c.decreases, falls),
      (
        limits_along hit.limit more.limit sets limit c.requires.limits,
        (c.loop-number.invariant.shut_limit ∙ limit, (limits, (c.loop-number.invariant.order, (alone, apart)))),
      ),
    )

pub put-requires-clause-low : goal.put-requires-clause-low
put-requires-clause-low t c =
    let u = c.in-Some-number.number in
    let listed : c.into_iter-number-iterator.result ≡ member_list c.in_ok-fitting.fitting =
    c.into_iter-number-iterator.ensures.into_iter_gives ∙ c.numbers-number-items.ensures.members in
    let from =
    c.loop-number.invariant.from u
    (first_ahead c.loop-number.number-iterator u c.next.new.self c.in-Some-number.ensures.steps) in
    (c.numbers-number-items.ensures.within u
    (listed_number c.in_ok-fitting.fitting u (subst (λ (xs : List ℕ). Contains xs u) listed from.0))).0

pub put-requires-clause-high : goal.put-requires-clause-high
put-requires-clause-high t c =
    let u = c.in-Some-number.number in
    let listed : c.into_iter-number-iterator.result ≡ member_list c.in_ok-fitting.fitting =
    c.into_iter-number-iterator.ensures.into_iter_gives ∙ c.numbers-number-items.ensures.members in
    let from =
    c.loop-number.invariant.from u
    (first_ahead c.loop-number.number-iterator u c.next.new.self c.in-Some-number.ensures.steps) in
    let high =
    (c.numbers-number-items.ensures.within u
    (listed_number c.in_ok-fitting.fitting u (subst (λ (xs : List ℕ). Contains xs u) listed from.0))).1 in
    omega (arith, high, c.in_ok-fitting.ensures.limit, c.loop-number.invariant.shut_limit)

pub loop-number-preserved : goal.loop-number-preserved
loop-number-preserved t c =
    let sets = c.args.sets.now in
    let hit = c.args.hit.now in
    let barred = c.args.barred.now in
    let more = c.in_ok-more.more in
    let u = c.in-Some-number.number in
    let us = c.next.new.self in
    let all = c.into_iter-number-iterator.result in
    let listed : all ≡ member_list c.in_ok-fitting.fitting =
    c.into_iter-number-iterator.ensures.into_iter_gives ∙ c.numbers-number-items.ensures.members in
    let from =
    c.loop-number.invariant.from u (first_ahead c.loop-number.number-iterator u us c.in-Some-number.ensures.steps) in
    let fits =
    (c.in_ok-fitting.ensures.members u).0
    (listed_number c.in_ok-fitting.fitting u (subst (λ (xs : List ℕ). Contains xs u) listed from.0)) in
    let at = subst (λ (o : Option ℕ). IfSome o (IsUnmetAt sets hit)) c.in-Some.is c.in_ok-place.ensures.some in
    running_next sets hit barred c.loop-number.shut all u us c.args.found.now.items c.loop-number.found.items
    (ahead_is sets hit barred c.loop-number.shut all c.loop-number.number-iterator (u ∷ us) c.args.found.now.items
    c.loop-number.found.items c.in-Some-number.ensures.steps c.loop-number.invariant)
    c.put.new.self more c.put_transversals.new.found.items
    c.in_ok-more.ensures.more c.put.ensures.limit c.put.ensures.members
    (not_hit sets hit c.index-sets-next.result c.in-Some.next at.0 c.index-sets-next.is at.1 u fits.0)
    (c.in_ok-within.ensures.grown c.if-not-within.false)
    c.in_ok-within.ensures.found_limits c.in_ok-within.ensures.order

pub returns-then-not-within-clause-found_limits : goal.returns-then-not-within-clause-found_limits
returns-then-not-within-clause-found_limits t c =
    limits_along c.in_ok-more.more.limit c.args.hit.now.limit c.put_transversals.new.found.items
    (ap (λ (s : Limited). s.limit) c.in_ok-more.ensures.more) c.in_ok-within.ensures.found_limits

pub returns-then-not-within-clause-from : goal.returns-then-not-within-clause-from
returns-then-not-within-clause-from t c =
    left_from c.args.sets.now c.args.hit.now c.loop-number.shut (with_number c.loop-number.shut c.in-Some-number.number)
    c.in_ok-more.more c.in-Some-number.number c.in_ok-more.ensures.more refl c.args.barred.now c.args.found.now.items
    c.loop-number.found.items
    c.put_transversals.new.found.items c.loop-number.invariant.left c.in_ok-within.ensures.from

pub returns-clause-from : goal.returns-clause-from
returns-clause-from t c = λ x in_now. (c.loop-number.invariant.left x).0 (inl in_now)

pub returns-clause-grown : goal.returns-clause-grown
returns-clause-grown t c =
    λ _.
    let sets = c.args.sets.now in
    let hit = c.args.hit.now in
    let barred = c.args.barred.now in
    let all = c.into_iter-number-iterator.result in
    let listed : all ≡ member_list c.in_ok-fitting.fitting =
    c.into_iter-number-iterator.ensures.into_iter_gives ∙ c.numbers-number-items.ensures.members in
    let at = subst (λ (o : Option ℕ). IfSome o (IsUnmetAt sets hit)) c.in-Some.is c.in_ok-place.ensures.some in
    all_left_out sets c.index-sets-next.result hit barred c.loop-number.shut c.in_ok-fitting.fitting all
    c.args.found.now.items c.loop-number.found.items (c.in-Some.next, at.0, sym c.index-sets-next.is)
    c.in_ok-fitting.ensures.members listed
    c.numbers-number-items.ensures.within
    (ahead_is sets hit barred c.loop-number.shut all c.loop-number.number-iterator [] c.args.found.now.items
    c.loop-number.found.items c.in-None.ensures.steps.0 c.loop-number.invariant)
