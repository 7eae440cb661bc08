use Rattle.std.proofs.Common.{◌∙◌}
use Rattle.ofn_expressions.specs.Names.{iri_of}
use Rattle.ofn_expressions.proofs.IndividualLists.{individual_listed}
use Rattle.ofn_expressions.proofs.individuals.read_individual.Goals as goal

pub returns-clause-value : goal.returns-clause-value
returns-clause-value c =
    individual_listed c.add_individual.new.self.counts (iri_of c.args.prefixes.now c.args.tree.now) c.deref.result.now
    c.add_individual.result (c.deref.ensures ∙ c.in_ok-iri.ensures.value) c.add_individual.ensures.number
