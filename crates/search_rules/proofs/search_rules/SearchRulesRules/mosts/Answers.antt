use Rattle.std.proofs.Common.{List, ℕ, ap, sym, subst}
use Rattle.calculus_specs.specs.Shape.{Shape}
use Rattle.step_finders.specs.Clashing.{AreMosts}
use Rattle.search_rules.specs.RuleLists.{RuleLists}
use Rattle.search_rules.proofs.search_rules.SearchRulesRules.mosts.Goals as goal

pub returns : goal.returns
returns c =
    subst (λ (t : List Shape). AreMosts t c.args.filler c.mosts.result.now)
    (ap (λ (r : RuleLists). r.table) c.self.view_is)
    (subst (λ (l : List ℕ). AreMosts c.self.inside.concepts c.args.filler l) (sym c.mosts.ensures)
    (c.self.invariant.number_lists.mosts_are c.args.filler))
