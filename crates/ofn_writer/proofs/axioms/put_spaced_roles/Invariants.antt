use Rattle.std.proofs.Common.{◌≡◌, ◌++◌, drop, length, true, nat_lt}
use Rattle.std.specs.List.{list_all}
use Rattle.ofn_writer.specs.Canonical.{spaced, role_texts}
use Rattle.ofn_writer.proofs.axioms.put_spaced_roles.Given as goal

abbrev pub invariant-loop-role : goal.invariant-loop-role
invariant-loop-role l = record {
  put : l.out.items ++ spaced (role_texts l.ontology (drop l.role-index l.roles))
      ≡ l.fn.out.items ++ spaced (role_texts l.ontology l.roles);
  listed : list_all (λ r. nat_lt r (length l.ontology.roles)) (drop l.role-index l.roles) ≡ true;
}
