use Rattle.std.proofs.Common.{subst}
use Rattle.std.specs.Prelude.{MatchOption}
use Rattle.step_agenda.specs.Trail.{TreeEntries, facts_in}
use Rattle.step_finders.specs.Clashing.{IsShown, NoClashByNew}
use Rattle.search_state.proofs.looking.find_clash_by_new.Goals as goal

pub returns : goal.returns
returns g c =
    let w = g.R.Rules.context c.args.rules.now in
    let m = c.args.new.now in
    subst (λ (t : TreeEntries). MatchOption c.find_clash_of_new_nodes.result
    (NoClashByNew w (facts_in t.entries) m.parent m.role m.filler) (IsShown w (facts_in t.entries)))
    c.new-state.ensures.tree c.find_clash_of_new_nodes.ensures
