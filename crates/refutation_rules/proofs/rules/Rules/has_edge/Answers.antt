use Rattle.std.proofs.Common.{ℕ, Bool, ◌∙◌, sym}
use Rattle.role_box.specs.RoleAxioms.{role_axioms}
use Rattle.role_box.proofs.Limits.{test_is_below}
use Rattle.calculus_specs.specs.Roles.{itself}
use Rattle.refutation_rules.specs.RefutationContext.{theory}
use Rattle.refutation_rules.proofs.Reading.{edge_read}
use Rattle.refutation_rules.proofs.Edges.{edge_own, edge_lower}
use Rattle.refutation_rules.proofs.rules.Rules.has_edge.Goals as goal

pub returns-then-own : goal.returns-then-own
returns-then-own c =
    let f = c.args.self.now in
    let a = c.args in
    let kind : ℕ → Bool = λ r. (theory f).below r a.role in
    let is = (test_is_below (role_axioms f.axioms f.named) a.role a.role).1 (itself a.role) in
    let own =
    edge_own a.branch.now.facts kind a.role c.role_bound-bound.result a.from a.to is
    (λ r le. c.role_bound-bound.ensures r a.role le) (sym c.has_edge-own.ensures ∙ c.if-own.true) in
    c.if-own.true ∙ sym (edge_read f.table a.branch.now.facts kind a.from a.to ∙ own)

pub returns-else-own : goal.returns-else-own
returns-else-own c =
    let f = c.args.self.now in
    let a = c.args in
    let kind : ℕ → Bool = λ r. (theory f).below r a.role in
    let is = (test_is_below (role_axioms f.axioms f.named) a.role a.role).1 (itself a.role) in
    let lower =
    edge_lower a.branch.now.facts kind a.role c.role_bound-bound.result a.from a.to is
    (λ r le. c.role_bound-bound.ensures r a.role le) (sym c.has_edge-own.ensures ∙ c.if-own.false) in
    c.has_lower_edge.ensures ∙ sym (edge_read f.table a.branch.now.facts kind a.from a.to ∙ lower)
