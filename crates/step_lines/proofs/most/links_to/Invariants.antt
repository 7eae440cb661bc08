use Rattle.std.proofs.Common.{◌≡◌, ◌++◌, ℕ, map, drop}
use Rattle.std.specs.List.{All}
use Rattle.step_lines.specs.Grounds.{IsLink}
use Rattle.step_lines.proofs.most.links_to.Given as goal

abbrev pub invariant-loop-end : goal.invariant-loop-end
invariant-loop-end g l =
    All (IsLink (g.R.Rules.context l.search.rules.now) (g.S.State.facts l.search.state.now) l.node l.role l.filler)
    l.links.items
    × (map (λ (k : ℕ × ℕ). k.1) l.links.items ++ drop l.end-index l.ends ≡ l.ends)
