use Rattle.std.proofs.Common.{◌≡◌}
use Rattle.individual_jobs.specs.Searching.{HasExplained}
use Rattle.individual_jobs.proofs.searching.explain_each.Given as goal

abbrev pub invariant-loop-individual : goal.invariant-loop-individual
invariant-loop-individual l = record {
  ontology : l.oracle.ontology ≡ l.fn.oracle.ontology;
  budget : l.oracle.budget ≡ l.fn.oracle.budget;
  explained : HasExplained l.fn.oracle.ontology l.class l.fn.oracle.budget l.individual l.reasons.items l.oracle.log;
}
