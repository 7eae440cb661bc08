use Rattle.std.proofs.Common.{◌≡◌, List, ℕ, refl, ◌∙◌, subst}
use Rattle.std.specs.List.{Contains}
use Rattle.axiom_sets.specs.Sets.{IsFull, member_list}
use Rattle.audit_check.proofs.Growing.{AreLeft, first_ahead, later_ahead, listed_number, left_first, left_next}
use Rattle.audit_check.proofs.Growing.{are_candidates}
use Rattle.audit_check.proofs.choices.candidates_at.Goals as goal

pub loop-number-init : goal.loop-number-init
loop-number-init c =
    let hit = c.args.hit.now in
    let us = c.into_iter-number-iterator.result in
    let listed : us ≡ member_list hit =
    c.into_iter-number-iterator.ensures.into_iter_gives ∙ c.numbers-number-items.ensures.members in
    record {
      limit = c.take_all.ensures.limit ∙ c.in_ok-candidates.ensures.limit ∙ c.limit.ensures.limit;
      ahead = λ u at. listed_number hit u (subst (λ (xs : List ℕ). Contains xs u) listed at);
      left = left_first c.args.sets.now hit c.take_all.new.self.members us c.take_all.new.self.members listed refl;
    }

pub drop_blocked-requires-clause-low : goal.drop_blocked-requires-clause-low
drop_blocked-requires-clause-low c =
    (c.numbers-number-items.ensures.within c.in-Some.number
    (c.loop-number.invariant.ahead c.in-Some.number
    (first_ahead c.loop-number.number-iterator c.in-Some.number c.next.new.self c.in-Some.ensures.steps))).0

pub drop_blocked-requires-clause-high : goal.drop_blocked-requires-clause-high
drop_blocked-requires-clause-high c =
    (c.numbers-number-items.ensures.within c.in-Some.number
    (c.loop-number.invariant.ahead c.in-Some.number
    (first_ahead c.loop-number.number-iterator c.in-Some.number c.next.new.self c.in-Some.ensures.steps))).1

pub loop-number-preserved : goal.loop-number-preserved
loop-number-preserved c =
    let sets = c.args.sets.now in
    let hit = c.args.hit.now in
    let first = c.take_all.new.self.members in
    let u = c.in-Some.number in
    let us = c.next.new.self in
    let old = c.loop-number.candidates.members in
    record {
      limit = c.drop_blocked.ensures.limit ∙ c.loop-number.invariant.limit;
      ahead =
          λ v at. c.loop-number.invariant.ahead v
          (later_ahead c.loop-number.number-iterator u us v c.in-Some.ensures.steps at);
      left =
          left_next sets hit first u us old c.drop_blocked.new.fitting.members
          (subst (λ (xs : List ℕ). AreLeft sets hit first xs old) c.in-Some.ensures.steps c.loop-number.invariant.left)
          c.in_ok-drop_blocked.ensures.members;
    }

pub returns-clause-members : goal.returns-clause-members
returns-clause-members c =
    let sets = c.args.sets.now in
    let hit = c.args.hit.now in
    let first = c.take_all.new.self.members in
    let last = c.loop-number.candidates.members in
    let full = c.in_ok-candidates.candidates.members in
    are_candidates sets hit c.args.barred.now c.numbers-number-items.ensures.within full first last
    (subst (λ (n : ℕ). IsFull n full) c.limit.ensures.limit c.in_ok-candidates.ensures.members)
    c.take_all.ensures.members
    (subst (λ (xs : List ℕ). AreLeft sets hit first xs last) c.in-None.ensures.steps.0 c.loop-number.invariant.left)
