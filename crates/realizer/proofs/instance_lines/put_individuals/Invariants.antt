use Rattle.std.proofs.Common.{◌≡◌, ◌++◌, drop, length, true}
use Rattle.subsumption.specs.ClassNames.{are_listed}
use Rattle.realizer.specs.Instances.{individual_lines}
use Rattle.realizer.proofs.instance_lines.put_individuals.Given as goal

abbrev pub invariant-loop-individual : goal.invariant-loop-individual
invariant-loop-individual l = record {
  put : l.out.items ++ individual_lines l.ontology (drop l.individual-index l.found)
      ≡ l.fn.out.items ++ individual_lines l.ontology l.found;
  listed : are_listed (length l.ontology.individuals) (drop l.individual-index l.found) ≡ true;
}
