use Rattle.std.proofs.Common.{◌≡◌, ◌++◌, drop, length, true, nat_lt}
use Rattle.std.specs.List.{list_all}
use Rattle.ofn_writer.specs.Canonical.{spaced, individual_texts}
use Rattle.ofn_writer.proofs.axioms.put_spaced_individuals.Given as goal

abbrev pub invariant-loop-individual : goal.invariant-loop-individual
invariant-loop-individual l = record {
  put : l.out.items ++ spaced (individual_texts l.ontology (drop l.individual-index l.individuals))
      ≡ l.fn.out.items ++ spaced (individual_texts l.ontology l.individuals);
  listed : list_all (λ a. nat_lt a (length l.ontology.individuals)) (drop l.individual-index l.individuals) ≡ true;
}
