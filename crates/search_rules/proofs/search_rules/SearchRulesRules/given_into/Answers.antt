use Rattle.std.proofs.Common.{sym, subst}
use Rattle.step_finders.specs.Giving.{AreGivenInto}
use Rattle.search_rules.specs.RuleLists.{RuleLists, context_in}
use Rattle.search_rules.proofs.Giving.{edges_are}
use Rattle.search_rules.proofs.search_rules.SearchRulesRules.given_into.Goals as goal

pub returns : goal.returns
returns c =
    subst (λ (r : RuleLists). AreGivenInto (context_in r) c.args.node c.edges_into.result.now) c.self.view_is
    (subst (AreGivenInto _ c.args.node) (sym c.edges_into.ensures)
    (edges_are _ c.args.node _ c.self.invariant.ready.facts_are))
