use Rattle.std.proofs.Common.{◌≡◌, ℕ, ◌<◌, true, eqb}
use Rattle.std.specs.List.{All, list_any}
use Rattle.ontology_limits.specs.Steps.{is_transitive}
use Rattle.search_rules.proofs.carries.transitive_roles.Given as goal

abbrev pub invariant-loop-role : goal.invariant-loop-role
invariant-loop-role l = record {
  every : (t : ℕ) → t < l.role → is_transitive l.roles t ≡ true → list_any (λ r. eqb r t) l.found.items ≡ true;
  each : All (λ t. is_transitive l.roles t ≡ true) l.found.items;
}
