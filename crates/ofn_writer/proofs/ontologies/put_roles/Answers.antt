use Rattle.std.proofs.Common.{codes}
use Rattle.ofn_writer.specs.Canonical.{declaration_lines}
use Rattle.ofn_writer.proofs.Lines.{declaration_lines_more}
use Rattle.ofn_writer.proofs.ontologies.put_roles.Goals as goal

pub loop-role-preserved : goal.loop-role-preserved
loop-role-preserved c =
    declaration_lines_more (codes "ObjectProperty") c.args.ontology.now.roles c.loop-role.role c.role_name.result.now
    c.put_declaration.new.out.items c.loop-role.out.items c.args.out.now.items
    (declaration_lines (codes "ObjectProperty") c.args.ontology.now.roles) c.role_name.ensures
    c.in_ok-put_declaration.ensures c.loop-role.invariant
