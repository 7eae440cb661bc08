use Rattle.std.proofs.Common.{ℕ, arith, subst, sym, ◌<◌}
use Rattle.calculus_specs.specs.Joins.{rep}
use Rattle.calculus_specs.specs.State.{node_count_from}
use Rattle.step_finders.specs.Clashing.{NoneOverrun}
use Rattle.step_finders.proofs.Each.{each_more}
use Rattle.step_finders.proofs.Clashing.{none_given, given_begins}
use Rattle.step_finders.proofs.clash.look_into.Goals as goal

pub look_at_begin-requires-clause-is_node : goal.look_at_begin-requires-clause-is_node
look_at_begin-requires-clause-is_node g c =
    let w = g.R.Rules.context c.args.search.now.rules.now in
    let fs = g.S.State.facts c.args.search.now.state.now in
    subst (λ (x : ℕ). x < node_count_from w.first fs) (sym c.representative.ensures)
    (given_begins w fs c.args.node c.given_into-edge-items.result.now c.loop-edge.edge-index (0, 0)
    c.given_into-edge-items.ensures (omega (arith, c.loop-edge-test.true)))

pub returns-clause-none : goal.returns-clause-none
returns-clause-none g c =
    none_given (g.R.Rules.context c.args.search.now.rules.now) (g.S.State.facts c.args.search.now.state.now) c.args.node
    c.args.filler
    c.given_into-edge-items.result.now c.given_into-edge-items.ensures
    (λ k d lt. c.loop-edge.invariant.0 k d (omega (arith, lt, c.loop-edge-test.false)))

pub loop-edge-preserved : goal.loop-edge-preserved
loop-edge-preserved g c =
    let w = g.R.Rules.context c.args.search.now.rules.now in
    let fs = g.S.State.facts c.args.search.now.state.now in (
      each_more (λ (p : ℕ × ℕ). NoneOverrun w fs (rep fs p.1) c.args.filler) c.given_into-edge-items.result.now
          c.loop-edge.edge-index (0, 0) c.loop-edge.invariant.0 (omega (arith, c.loop-edge-test.true))
          (subst (λ (x : ℕ). NoneOverrun w fs x c.args.filler) c.representative.ensures c.in_ok-last.ensures.none),
      c.in_ok-last.ensures.last,
    )
