use Rattle.std.proofs.Common.{◌≡◌, ◌++◌, drop, codes}
use Rattle.ofn_writer.specs.Canonical.{declaration_lines}
use Rattle.ofn_writer.proofs.ontologies.put_individuals.Given as goal

abbrev pub invariant-loop-individual : goal.invariant-loop-individual
invariant-loop-individual l =
    l.out.items ++ declaration_lines (codes "NamedIndividual") (drop l.individual l.ontology.individuals)
    ≡ l.fn.out.items ++ declaration_lines (codes "NamedIndividual") l.ontology.individuals
