use Rattle.std.proofs.Common.{◌≡◌, ◌++◌, drop}
use Rattle.finite_model.specs.Written.{class_lines}
use Rattle.finite_model.proofs.interp.Interp.push_classes.Given as goal

abbrev pub invariant-loop-class : goal.invariant-loop-class
invariant-loop-class l =
    l.text.items ++ class_lines l.class (drop l.class l.ontology.classes) l.self.members
    ≡ l.fn.text.items ++ class_lines 0 l.ontology.classes l.self.members
