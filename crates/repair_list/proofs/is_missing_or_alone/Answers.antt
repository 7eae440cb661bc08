use Rattle.std.proofs.Common.{◌≡◌, ◌∙◌, true, refl, sym, ap}
use Rattle.std.specs.FinSet as set
use Rattle.std.proofs.lemmas.Bool.{true≢false}
use Rattle.axiom_sets.specs.Sets.{Limited}
use Rattle.repair_list.proofs.Alone.{to_alone, from_alone}
use Rattle.repair_list.proofs.is_missing_or_alone.Goals as goal

pub returns-then-not-has : goal.returns-then-not-has
returns-then-not-has c =
    (λ _ member. absurd (true≢false (sym member ∙ sym c.has.ensures ∙ c.if-not-has.true)), λ _. refl)

pub returns : goal.returns
returns c =
    let justifications = c.args.justifications.now in
    let s = c.args.set.now in
    let k = c.args.number in
    let others = c.take.new.self.members in
    let e : others ≡ set.remove s.members k =
    c.take.ensures.members ∙ ap (λ (t : Limited). set.remove t.members k) c.in_ok-others.ensures in
    let member : set.contains s.members k ≡ true = sym c.has.ensures ∙ c.if-not-has.false in (
      λ beside _. to_alone justifications s k others e (c.is_hit_beside.ensures.0 beside),
      λ need. c.is_hit_beside.ensures.1 (from_alone justifications s k others e (need member)),
    )
