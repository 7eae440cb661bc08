use Rattle.std.proofs.Common.{subst, List, ℕ}
use Rattle.calculus_specs.specs.declared.facts.Fact.{Fact}
use Rattle.search_trace.specs.RuleLine.{line_of}
use Rattle.step_agenda.specs.Trail.{TreeEntries, facts_in}
use Rattle.step_finders.specs.Choosing.{branch_of}
use Rattle.step_lines.specs.Serving.{HoldWithin}
use Rattle.step_lines.specs.Kinds.{ServesChoice}
use Rattle.search_state.specs.Marked.{marked_in}
use Rattle.search_state.proofs.Holding.{choice_rests}
use Rattle.search_state.proofs.resting.rest_choice.Goals as goal

pub returns : goal.returns
returns g c =
    let w = g.R.Rules.context c.args.rules.now in
    let hold =
    subst (λ (gs : List (Fact ℕ)). HoldWithin c.in_ok-marks.marks (marked_in c.args.tree.now.entries) gs)
    c.deref.ensures.value c.in_ok-marks.ensures in
    choice_rests w c.args.tree.now.entries (line_of c.in_ok-line.line.line) c.in_ok-line.line.grounds.items
    c.in_ok-marks.marks c.requires.grounded hold c.args.choosing.now c.requires.closed c.requires.choosable
    (subst (λ (t : TreeEntries). ServesChoice w (facts_in t.entries) (branch_of c.args.choosing.now)
    (line_of c.in_ok-line.line.line) c.in_ok-line.line.grounds.items)
    c.new-state.ensures.tree c.in_ok-line.ensures)
