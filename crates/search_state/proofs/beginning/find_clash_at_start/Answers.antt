use Rattle.std.proofs.Common.{ℕ, ◌<◌, ap, subst, Option}
use Rattle.std.specs.Prelude.{MatchOption}
use Rattle.calculus_specs.specs.declared.facts.Fact.TheVariants.{Has}
use Rattle.step_agenda.specs.Trail.{facts_in}
use Rattle.step_finders.specs.declared.clash.Clash.{Clash}
use Rattle.step_finders.specs.Clashing.{IsShown}
use Rattle.search_state.specs.Looking.{NoClashByFact}
use Rattle.search_state.proofs.Begun.{clash_at_start}
use Rattle.search_state.proofs.beginning.find_clash_at_start.Goals as goal

pub returns-in-None : goal.returns-in-None
returns-in-None g c =
    let w = g.R.Rules.context c.args.rules.now in
    let fs = facts_in c.args.tree.now.entries in
    let free : NoClashByFact w fs (Has c.args.at c.args.sub) =
    subst (λ (o : Option Clash). MatchOption o (NoClashByFact w fs (Has c.args.at c.args.sub)) (IsShown w fs))
    c.in-None.is c.find_clash_by.ensures in
    clash_at_start w c.is_ready.ensures.tabled c.args.at c.args.sub c.args.not_sup
    (subst (λ (k : ℕ). c.args.at < k) c.requires.one_first c.requires.at_first) fs (ap facts_in c.requires.begun) free
    c.find_clash_by-in-None.result c.find_clash_by-in-None.ensures
