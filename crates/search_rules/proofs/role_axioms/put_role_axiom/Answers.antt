use Rattle.std.proofs.Common.{ap, sym, ◌∙◌}
use Rattle.std.specs.FinSet as sets
use Rattle.axiom_sets.specs.NumberSets.{NumberSet}
use Rattle.search_rules.proofs.RoleSets.{put_in, not_put}
use Rattle.search_rules.proofs.role_axioms.put_role_axiom.Goals as goal

pub returns-then-is_role_axiom_at-clause-members : goal.returns-then-is_role_axiom_at-clause-members
returns-then-is_role_axiom_at-clause-members c = λ k.
    ap (λ (s : NumberSet). sets.contains s k) c.put.ensures.members
    ∙ put_in c.args.axioms.now c.args.found.now.members c.args.number
    (sym c.is_role_axiom_at.ensures ∙ c.if-is_role_axiom_at.true) k

pub returns-else-is_role_axiom_at-clause-members : goal.returns-else-is_role_axiom_at-clause-members
returns-else-is_role_axiom_at-clause-members c =
    not_put c.args.axioms.now c.args.found.now.members c.args.number
    (sym c.is_role_axiom_at.ensures ∙ c.if-is_role_axiom_at.false)
