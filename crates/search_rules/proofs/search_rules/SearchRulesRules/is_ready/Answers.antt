use Rattle.std.proofs.Common.{subst}
use Rattle.step_finders.specs.Found.{AreFiled}
use Rattle.search_rules.specs.RuleLists.{RuleLists, numbers_in, context_in}
use Rattle.search_rules.specs.Files.{files_in}
use Rattle.search_rules.proofs.Ranged.{ranges_first}
use Rattle.search_rules.proofs.Filing.{filed}
use Rattle.search_rules.proofs.search_rules.SearchRulesRules.is_ready.Goals as goal

pub returns-clause-ranged : goal.returns-clause-ranged
returns-clause-ranged c = ranges_first c.args.self.now.ontology.axioms (numbers_in c.args.self.now)

pub returns-clause-filed : goal.returns-clause-filed
returns-clause-filed c =
    subst (λ (r : RuleLists). AreFiled (context_in r) (files_in r)) c.self.view_is (filed _ c.self.invariant.ready)
