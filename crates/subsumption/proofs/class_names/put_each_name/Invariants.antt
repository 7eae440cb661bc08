use Rattle.std.proofs.Common.{◌≡◌, ◌++◌, drop, length, true}
use Rattle.subsumption.specs.ClassNames.{names_text}
use Rattle.subsumption.specs.ClassNames.{are_listed}
use Rattle.subsumption.proofs.class_names.put_each_name.Given as goal

abbrev pub invariant-loop-class : goal.invariant-loop-class
invariant-loop-class l = record {
  put : l.out.items ++ names_text l.ontology (drop l.class-index l.classes)
      ≡ l.fn.out.items ++ names_text l.ontology l.classes;
  listed : are_listed (length l.ontology.classes) (drop l.class-index l.classes) ≡ true;
}
