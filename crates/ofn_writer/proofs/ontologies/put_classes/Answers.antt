use Rattle.std.proofs.Common.{codes}
use Rattle.ofn_writer.specs.Canonical.{declaration_lines}
use Rattle.ofn_writer.proofs.Lines.{declaration_lines_more}
use Rattle.ofn_writer.proofs.ontologies.put_classes.Goals as goal

pub loop-class-preserved : goal.loop-class-preserved
loop-class-preserved c =
    declaration_lines_more (codes "Class") c.args.ontology.now.classes c.loop-class.class c.class_name.result.now
    c.put_declaration.new.out.items c.loop-class.out.items c.args.out.now.items
    (declaration_lines (codes "Class") c.args.ontology.now.classes) c.class_name.ensures c.in_ok-put_declaration.ensures
    c.loop-class.invariant
