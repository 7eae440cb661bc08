use Rattle.std.proofs.Common.{arith, ◌≡◌, ◌<◌, true, ℕ, List, subst, sym, MatchOption}
use Rattle.calculus_specs.specs.State.{all_apart}
use Rattle.std.specs.List.{All}
use Rattle.calculus_specs.specs.State.{node_count_from}
use Rattle.tableau_specs.specs.Steps.{below_of}
use Rattle.step_finders.specs.Filled.{AreUnapart}
use Rattle.step_finders.proofs.Members.{filled_nodes}
use Rattle.step_finders.proofs.Chosen.{no_pair_few, pair_or_none}
use Rattle.step_finders.proofs.choose.find_pair.Goals as goal

pub returns-then-len-count : goal.returns-then-len-count
returns-then-len-count g c =
    no_pair_few (g.R.Rules.context c.args.search.now.rules.now) (g.S.State.facts c.args.search.now.state.now)
    c.args.node c.args.count
    c.args.role c.args.filler c.in_ok-nodes.nodes.items c.in_ok-nodes.ensures
    (omega (arith, c.if-len-count.true, c.len.ensures))

pub returns : goal.returns
returns g c =
    let w = g.R.Rules.context c.args.search.now.rules.now in
    let fs = g.S.State.facts c.args.search.now.state.now in
    pair_or_none w fs c.args.node c.args.count c.args.role c.args.filler c.in_ok-nodes.nodes.items c.in_ok-nodes.ensures
    c.find_unapart.result (omega (arith, c.if-len-count.false, c.len.ensures))
    (subst (λ (ys : List ℕ). MatchOption c.find_unapart.result (all_apart fs ys ≡ true) (λ p. AreUnapart fs ys p.0 p.1))
    c.deref.ensures.value c.find_unapart.ensures)

pub find_unapart-requires-clause-within : goal.find_unapart-requires-clause-within
find_unapart-requires-clause-within g c =
    let fs = g.S.State.facts c.args.search.now.state.now in
    subst (All (λ y. y < node_count_from (g.S.State.first c.args.search.now.state.now) fs)) (sym c.deref.ensures.value)
    (filled_nodes (g.S.State.first c.args.search.now.state.now)
    (below_of (g.R.Rules.context c.args.search.now.rules.now)) fs c.args.node
    c.args.role c.args.filler c.in_ok-nodes.nodes.items c.in_ok-nodes.ensures)
