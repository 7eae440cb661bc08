use Rattle.std.proofs.Common.{List, subst}
use Rattle.step_finders.specs.declared.state.NamedRow.{NamedRow}
use Rattle.step_finders.specs.Found.{NamedDue}
use Rattle.step_finders.proofs.Filed.{named_due}
use Rattle.step_agenda.proofs.additions.by_named_at.Goals as goal

pub returns-in-Some : goal.returns-in-Some
returns-in-Some g c =
    named_due (g.R.Rules.context c.args.search.now.rules.now) (g.R.Rules.files c.args.search.now.rules.now)
    c.is_ready.ensures.tabled
    c.is_ready.ensures.chosen c.is_ready.ensures.filed (g.S.State.facts c.args.search.now.state.now) c.args.node
    c.args.concept c.args.place c.in-Some.gives c.requires
    (subst
    (λ (us : List NamedRow). NamedDue (g.S.State.facts c.args.search.now.state.now) c.args.node us c.args.place
    c.in-Some.gives)
    c.named.ensures c.in-Some.ensures)
