use Rattle.std.proofs.Common.{◌≡◌, ◌+◌, ◌≤◌, length}
use Rattle.calculus_specs.specs.State.{all_apart, node_count_from}
use Rattle.tableau_specs.specs.Clash.{filled_successors}
use Rattle.tableau_specs.specs.Steps.{below_of}
use Rattle.step_finders.specs.Filled.{filled_from}
use Rattle.step_finders.proofs.overrun.is_overrun.Given as goal

-- the successors from `from` on are those that were not counted, and are pairwise apart where all are
abbrev pub invariant-loop-next : goal.invariant-loop-next
invariant-loop-next g l =
    let below = below_of (g.R.Rules.context l.search.rules.now) in
    let fs = g.S.State.facts l.search.state.now in
    let later = filled_from (g.R.Rules.context l.search.rules.now).first below fs l.node l.role l.filler l.from in
    let all = filled_successors (g.R.Rules.context l.search.rules.now).first below fs l.node l.role l.filler in
    (l.more + length later ≡ length all) × (all_apart fs later ≡ all_apart fs all) × (l.more ≤ l.from)
    × (l._nodes ≡ node_count_from (g.R.Rules.context l.search.rules.now).first fs)

abbrev pub decreases-loop-next : goal.decreases-loop-next
decreases-loop-next g l =
    length (filled_from (g.R.Rules.context l.search.rules.now).first (below_of (g.R.Rules.context l.search.rules.now))
    (g.S.State.facts l.search.state.now) l.node l.role l.filler l.from)
