use Rattle.std.proofs.Common.{◌∙◌, ◌+◌, refl, sym, arith}
use Rattle.std.proofs.lemmas.Bool.{true≢false}
use Rattle.repair_list.proofs.Alone.{up_to-none, up_to-more, up_to-all}
use Rattle.repair_list.proofs.is_hit_alone.Goals as goal

pub loop-place-init : goal.loop-place-init
loop-place-init c = up_to-none c.args.justifications.now c.args.set.now c.limit-limit.ensures.within

pub loop-place-preserved : goal.loop-place-preserved
loop-place-preserved c =
    up_to-more c.args.justifications.now c.args.set.now c.loop-place.place c.loop-place.invariant
    (c.in_ok-fits.ensures.0 c.if-not-fits.false)

pub returns-then-not-fits : goal.returns-then-not-fits
returns-then-not-fits c = (
  λ f. absurd (true≢false (sym f)),
  λ all. absurd (true≢false (sym (c.in_ok-fits.ensures.1 (all (c.loop-place.place + 1))) ∙ c.if-not-fits.true)),
)

pub returns : goal.returns
returns c = (
  λ _. up_to-all c.args.justifications.now c.args.set.now c.loop-place.place c.limit-limit.ensures.within
      (omega (arith, c.loop-place-test.false, c.limit-limit.ensures.limit)) c.loop-place.invariant,
  λ _. refl,
)
