use Rattle.std.proofs.Common.{◌≡◌, ◌++◌, drop, codes}
use Rattle.ofn_writer.specs.Canonical.{declaration_lines}
use Rattle.ofn_writer.proofs.ontologies.put_roles.Given as goal

abbrev pub invariant-loop-role : goal.invariant-loop-role
invariant-loop-role l =
    l.out.items ++ declaration_lines (codes "ObjectProperty") (drop l.role l.ontology.roles)
    ≡ l.fn.out.items ++ declaration_lines (codes "ObjectProperty") l.ontology.roles
