use Rattle.std.proofs.Common.{◌∙◌, List, sym, subst}
use Rattle.std.proofs.lemmas.Bool.{true≢false}
use Rattle.pinpointing_specs.specs.Sets.{Limited}
use Rattle.set_questions.specs.Kept.{HasAbove, IsDropped}
use Rattle.set_questions.proofs.Dropped.{with_above, with_new, limits_new}
use Rattle.set_questions.proofs.antichain.put_kept.Goals as goal

pub returns-then-is_outranked-clause-ok : goal.returns-then-is_outranked-clause-ok
returns-then-is_outranked-clause-ok c =
    with_above c.args.kind c.args.set c.args.sets.now.items
    (subst (λ (xs : List Limited). HasAbove c.args.kind xs c.args.set) c.deref.ensures.value
    (c.is_outranked.ensures.0 c.if-is_outranked.true))

pub returns-clause-ok : goal.returns-clause-ok
returns-clause-ok c =
    let kind = c.args.kind in
    let s = c.args.set in
    let old = c.args.sets.now.items in
    let left = c.drop_outranked.new.sets.items in
    let none : ¬ HasAbove kind old s =
    λ above. true≢false
    (sym
    (c.is_outranked.ensures.1 (subst (λ (xs : List Limited). HasAbove kind xs s) (sym c.deref.ensures.value) above))
    ∙ c.if-is_outranked.false) in
    let dropped : IsDropped kind s old left =
    subst (λ (xs : List Limited). IsDropped kind s xs left) c.reserve.ensures.items c.drop_outranked.ensures.dropped in
    with_new kind s old left c.push.new.self.items none dropped c.in_ok-push.ensures.items

pub returns-clause-limits : goal.returns-clause-limits
returns-clause-limits c =
    let kind = c.args.kind in
    let s = c.args.set in
    let old = c.args.sets.now.items in
    let left = c.drop_outranked.new.sets.items in
    let dropped : IsDropped kind s old left =
    subst (λ (xs : List Limited). IsDropped kind s xs left) c.reserve.ensures.items c.drop_outranked.ensures.dropped in
    limits_new kind s old left c.push.new.self.items c.requires dropped c.in_ok-push.ensures.items
