use Rattle.std.proofs.Common.{◌≡◌, ◌∙◌, get_or, sym, subst}
use Rattle.std.specs.List.{Contains}
use Rattle.std.proofs.lemmas.List.{get_or_default}
use Rattle.lane_sieve.specs.Sets.{IsPart}
use Rattle.pinpointing_specs.specs.Sets.{Limited}
use Rattle.set_questions.proofs.set_oracle.answer_of.Goals as goal

pub returns-in_ok-try_clone-in-Some : goal.returns-in_ok-try_clone-in-Some
returns-in_ok-try_clone-in-Some c size left asks taken =
    let sets = c.args.sets.now in
    let part = c.in_ok-try_clone-in-Some.field-0 in
    let same : part ≡ c.index-sets-place.result = c.in_ok-try_clone-in-Some.ensures in
    let at : c.index-sets-place.result ≡ get_or sets c.in-Some.place c.index-sets-place.result =
    c.index-sets-place.is in
    let from : get_or sets c.in-Some.place c.args.asked.now ≡ part =
    get_or_default sets c.in-Some.place c.args.asked.now c.index-sets-place.result c.in-Some.ensures.some ∙ sym at
    ∙ sym same in
    let listed : Contains sets part = (
      c.in-Some.place,
      c.in-Some.ensures.some,
      get_or_default sets c.in-Some.place part c.index-sets-place.result c.in-Some.ensures.some ∙ sym at ∙ sym same,
    ) in (
      subst (λ (s : Limited). s.limit ≡ c.args.asked.now.limit) from
          (c.requires c.in-Some.place c.args.asked.now c.in-Some.ensures.some),
      subst (λ (s : Limited). IsPart s.members c.args.asked.now.members) from c.in-Some.ensures.part,
      (part, listed, λ k h. h),
      (part, listed, λ k h. h),
    )
