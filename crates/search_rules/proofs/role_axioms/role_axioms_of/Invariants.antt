use Rattle.std.proofs.Common.{◌≡◌, take}
use Rattle.search_rules.proofs.RoleSets.{HasRoleAxioms}
use Rattle.search_rules.proofs.role_axioms.role_axioms_of.Given as goal

abbrev pub invariant-loop-number : goal.invariant-loop-number
invariant-loop-number l = record {
  limit : l.found.limit ≡ l.set.limit;
  members : HasRoleAxioms l.ontology.axioms (take l.number-index l.only) l.found.members;
}
