use Rattle.std.proofs.Common.{ℕ, get_or, arith}
use Rattle.std.proofs.lemmas.List.{get_or_default}
use Rattle.step_finders.specs.Found.{AllEndsHave}
use Rattle.step_finders.proofs.Adding.{carry_adds}
use Rattle.step_finders.proofs.Each.{each_more}
use Rattle.step_finders.proofs.parts.find_carried.Goals as goal

pub loop-carry-preserved : goal.loop-carry-preserved
loop-carry-preserved g c =
    each_more
    (λ (p : ℕ × ℕ). AllEndsHave (g.R.Rules.context c.args.search.now.rules.now)
    (g.S.State.facts c.args.search.now.state.now) c.args.node p.0
    p.1)
    c.args.carries.now c.loop-carry.carry-index (0, 0)
    c.loop-carry.invariant (omega (arith, c.loop-carry-test.true)) c.in-None.ensures

pub returns-in-Some : goal.returns-in-Some
returns-in-Some g c =
    carry_adds (g.R.Rules.context c.args.search.now.rules.now) (g.R.Rules.files c.args.search.now.rules.now)
    (g.S.State.facts c.args.search.now.state.now) c.args.node c.args.concept c.args.role c.args.filler
    c.args.carries.now
    (get_or c.args.carries.now c.loop-carry.carry-index (0, 0)) c.in-Some.by c.in-Some.end c.requires.is_node
    c.requires.holds c.requires.shape c.requires.carries (
      c.loop-carry.carry-index,
      omega (arith, c.loop-carry-test.true),
      get_or_default c.args.carries.now c.loop-carry.carry-index
          (get_or c.args.carries.now c.loop-carry.carry-index (0, 0)) (0, 0) (omega (arith, c.loop-carry-test.true)),
    ) c.in-Some.ensures
