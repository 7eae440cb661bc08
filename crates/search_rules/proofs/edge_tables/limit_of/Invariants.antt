use Rattle.std.proofs.Common.{◌≡◌, ℕ, ◌<◌, ◌≤◌, ◌^◌, eqb, take}
use Rattle.std.specs.List.{All}
use Rattle.ontology_limits.specs.Paths.{is_below}
use Rattle.search_rules.proofs.edge_tables.limit_of.Given as goal

abbrev pub invariant-loop-role : goal.invariant-loop-role
invariant-loop-role l = record {
  outside : (r s : ℕ) → l.limit ≤ r → is_below l.roles r s ≡ eqb r s;
  unused : All (λ s. s < l.limit) (take l.role-index l.used);
  small : l.limit ≤ 2 ^ 32;
}
