use Rattle.std.proofs.Common.{◌≡◌, ◌++◌, drop}
use Rattle.finite_model.specs.Written.{individual_lines}
use Rattle.finite_model.proofs.interp.Interp.push_individuals.Given as goal

abbrev pub invariant-loop-individual : goal.invariant-loop-individual
invariant-loop-individual l =
    l.text.items ++ individual_lines l.individual (drop l.individual l.ontology.individuals) l.self.individuals
    ≡ l.fn.text.items ++ individual_lines 0 l.ontology.individuals l.self.individuals
