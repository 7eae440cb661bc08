use Rattle.std.proofs.Common.{◌≡◌, ◌-◌, ◌++◌, take}
use Rattle.tableau_specs.specs.Clash.{filled_successors}
use Rattle.tableau_specs.specs.Steps.{below_of}
use Rattle.step_finders.specs.Filled.{AreFilled, filled_from}
use Rattle.step_lines.proofs.most.first_filled.Given as goal

-- what is lacking are the first of those from `from` on
abbrev pub invariant-loop-place : goal.invariant-loop-place
invariant-loop-place g l =
    let w = g.R.Rules.context l.search.rules.now in
    let fs = g.S.State.facts l.search.state.now in
    AreFilled (below_of w) fs l.node l.role l.filler l.ends.items
    × (l.first.items ++ take (l.most - l._place) (filled_from w.first (below_of w) fs l.node l.role l.filler l.from)
    ≡ take l.most (filled_successors w.first (below_of w) fs l.node l.role l.filler))
