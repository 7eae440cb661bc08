use Rattle.std.proofs.Common.{subst, List, ℕ}
use Rattle.calculus_specs.specs.declared.facts.Fact.{Fact}
use Rattle.search_trace.specs.RuleLine.{line_of}
use Rattle.step_agenda.specs.Trail.{TreeEntries, facts_in}
use Rattle.step_lines.specs.Serving.{HoldWithin}
use Rattle.step_lines.specs.Kinds.{ServesNewNodes}
use Rattle.search_state.specs.Marked.{marked_in}
use Rattle.search_state.proofs.Holding.{new_nodes_rest}
use Rattle.search_state.proofs.resting.rest_new_nodes.Goals as goal

pub returns : goal.returns
returns g c =
    let w = g.R.Rules.context c.args.rules.now in
    let hold =
    subst (λ (gs : List (Fact ℕ)). HoldWithin c.in_ok-marks.marks (marked_in c.args.tree.now.entries) gs)
    c.deref.ensures.value c.in_ok-marks.ensures in
    new_nodes_rest w c.args.tree.now.entries (line_of c.in_ok-line.line.line) c.in_ok-line.line.grounds.items
    c.in_ok-marks.marks c.requires.grounded hold _
    (subst (λ (t : TreeEntries). ServesNewNodes w (facts_in t.entries) c.args.new.now (line_of c.in_ok-line.line.line)
    c.in_ok-line.line.grounds.items)
    c.new-state.ensures.tree c.in_ok-line.ensures)
