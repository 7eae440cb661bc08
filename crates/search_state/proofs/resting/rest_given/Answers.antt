use Rattle.std.proofs.Common.{sym, subst, refl}
use Rattle.search_trace.specs.RuleLine.{line_of}
use Rattle.step_agenda.specs.Trail.{facts_in}
use Rattle.step_lines.specs.Serving.{HoldWithin}
use Rattle.search_state.specs.Marked.{marked_in}
use Rattle.search_state.proofs.Holding.{given_rests}
use Rattle.search_state.proofs.resting.rest_given.Goals as goal

pub returns : goal.returns
returns g c =
    let w = g.R.Rules.context c.args.rules.now in
    let es = c.args.tree.now.entries in
    let serves = c.in_ok-line.ensures (facts_in es) in
    let u = c.none.result in
    given_rests w es (line_of c.in_ok-line.line.line) c.in_ok-line.line.grounds.items u c.requires.grounded
    (subst (λ gs. HoldWithin u (marked_in es) gs) (sym serves.no_grounds) refl) c.args.given.now c.none.ensures serves
