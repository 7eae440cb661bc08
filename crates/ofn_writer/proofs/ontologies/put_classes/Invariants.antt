use Rattle.std.proofs.Common.{◌≡◌, ◌++◌, drop, codes}
use Rattle.ofn_writer.specs.Canonical.{declaration_lines}
use Rattle.ofn_writer.proofs.ontologies.put_classes.Given as goal

abbrev pub invariant-loop-class : goal.invariant-loop-class
invariant-loop-class l =
    l.out.items ++ declaration_lines (codes "Class") (drop l.class l.ontology.classes)
    ≡ l.fn.out.items ++ declaration_lines (codes "Class") l.ontology.classes
