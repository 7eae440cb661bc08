use Rattle.std.proofs.Common.{◌≡◌, ◌++◌, drop, length, true}
use Rattle.shq_terms.specs.Uses.{all_use_listed}
use Rattle.ofn_writer.specs.Canonical.{axiom_lines}
use Rattle.ofn_writer.proofs.ontologies.put_axioms.Given as goal

abbrev pub invariant-loop-numbered : goal.invariant-loop-numbered
invariant-loop-numbered l = record {
  put : l.out.items ++ axiom_lines l.ontology (drop l.numbered-index l.ontology.axioms)
      ≡ l.fn.out.items ++ axiom_lines l.ontology l.ontology.axioms;
  listed : all_use_listed (length l.ontology.classes) (length l.ontology.roles) (length l.ontology.individuals)
      (drop l.numbered-index l.ontology.axioms)
      ≡ true;
}
