use Rattle.std.proofs.Common.{◌≡◌, ◌&&◌, subst}
use Rattle.std.specs.FinSet as sets
use Rattle.ontology_limits.specs.Meeting.{is_role_number}
use Rattle.search_rules.specs.RuleLists.{RuleLists}
use Rattle.search_rules.proofs.search_rules.SearchRules.role_axioms.Goals as goal

pub returns-clause-members : goal.returns-clause-members
returns-clause-members c = λ k.
    subst
    (λ (r : RuleLists). sets.contains c.self.inside.role_axioms.members k
    ≡ (sets.contains r.set.members k && is_role_number r.ontology.axioms k))
    c.self.view_is (c.self.invariant.role_members k)
