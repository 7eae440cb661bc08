use Rattle.std.proofs.Common.{◌&&◌, eqb, leb, take, List, ℕ, subst, arith}
use Rattle.std.specs.List.{list_any}
use Rattle.tableau_specs.specs.Clash.{filled_successors}
use Rattle.tableau_specs.specs.Steps.{below_of}
use Rattle.step_finders.specs.Filled.{IsLeast}
use Rattle.step_lines.proofs.First.{none_put, put_more, none_left, all_put}
use Rattle.step_lines.proofs.most.first_filled.Goals as goal

pub loop-place-init : goal.loop-place-init
loop-place-init g c =
    let w = g.R.Rules.context c.args.search.now.rules.now in (
      c.in_ok-ends.ensures,
      none_put w.first (below_of w) (g.S.State.facts c.args.search.now.state.now) c.args.node c.args.role c.args.filler
          c.new-first.result.items c.new-first.ensures.items c.args.most,
    )

pub returns-in_default : goal.returns-in_default
returns-in_default g c =
    let w = g.R.Rules.context c.args.search.now.rules.now in
    let fs = g.S.State.facts c.args.search.now.state.now in
    let from = c.loop-place.from in
    let least =
    subst (λ (ys : List ℕ). IsLeast (λ z. list_any (eqb z) ys && leb from z) c.least_from.result)
    c.deref.ensures.value c.least_from.ensures in
    none_left w.first (below_of w) fs c.args.node c.args.role c.args.filler _ c.loop-place.invariant.0
    c.loop-place.first.items
    (take c.args.most (filled_successors w.first (below_of w) fs c.args.node c.args.role c.args.filler)) c.args.most
    c.loop-place._place from c.loop-place.invariant.1 c.least_from.result least c.in_default.not-Some

pub loop-place-preserved : goal.loop-place-preserved
loop-place-preserved g c =
    let w = g.R.Rules.context c.args.search.now.rules.now in
    let fs = g.S.State.facts c.args.search.now.state.now in
    let from = c.loop-place.from in
    let least =
    subst (λ (ys : List ℕ). IsLeast (λ z. list_any (eqb z) ys && leb from z) c.least_from.result)
    c.deref.ensures.value c.least_from.ensures in (
      c.loop-place.invariant.0,
      put_more w.first (below_of w) fs c.args.node c.args.role c.args.filler _
          c.loop-place.invariant.0 c.loop-place.first.items
          (take c.args.most (filled_successors w.first (below_of w) fs c.args.node c.args.role c.args.filler))
          c.args.most
          c.loop-place._place from c.loop-place.invariant.1 c.least_from.result least c.in-Some.next c.in-Some.is
          (omega (arith, c.loop-place-test.true)) c.push.new.self.items c.in_ok-push.ensures.items,
    )

pub returns : goal.returns
returns g c =
    let w = g.R.Rules.context c.args.search.now.rules.now in
    let fs = g.S.State.facts c.args.search.now.state.now in
    all_put w.first (below_of w) fs c.args.node c.args.role c.args.filler c.loop-place.first.items
    (take c.args.most (filled_successors w.first (below_of w) fs c.args.node c.args.role c.args.filler)) c.args.most
    c.loop-place._place c.loop-place.from (omega (arith, c.loop-place-test.false)) c.loop-place.invariant.1
