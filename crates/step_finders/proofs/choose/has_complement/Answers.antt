use Rattle.std.proofs.Common.{sym, ◌∙◌}
use Rattle.step_finders.proofs.Chosen.{other_complements}
use Rattle.step_finders.proofs.choose.has_complement.Goals as goal

pub returns-in-Some-clause-no : goal.returns-in-Some-clause-no
returns-in-Some-clause-no g c = λ out d is.
    other_complements (g.R.Rules.context c.args.search.now.rules.now).table c.is_ready.ensures.tabled
    (g.S.State.facts c.args.search.now.state.now) c.args.node c.args.concept c.in-Some.complement
    c.in-Some.ensures (sym c.has.ensures ∙ out) d is
