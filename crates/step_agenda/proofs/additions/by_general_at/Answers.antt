use Rattle.std.proofs.Common.{List, subst}
use Rattle.step_finders.specs.declared.state.PlainRow.{PlainRow}
use Rattle.step_finders.specs.Found.{PlainDue}
use Rattle.step_finders.proofs.Filed.{general_due}
use Rattle.step_agenda.proofs.additions.by_general_at.Goals as goal

pub returns-in-Some : goal.returns-in-Some
returns-in-Some g c =
    general_due (g.R.Rules.context c.args.search.now.rules.now) (g.R.Rules.files c.args.search.now.rules.now)
    c.is_ready.ensures.tabled
    c.is_ready.ensures.chosen c.is_ready.ensures.filed (g.S.State.facts c.args.search.now.state.now)
    c.args.node c.requires c.in-Some.row
    (subst (λ (us : List PlainRow). PlainDue (g.S.State.facts c.args.search.now.state.now) c.args.node us c.in-Some.row)
    c.general.ensures c.in-Some.ensures)
