use Rattle.std.proofs.Common.{codes}
use Rattle.ofn_writer.specs.Canonical.{declaration_lines}
use Rattle.ofn_writer.proofs.Lines.{declaration_lines_more}
use Rattle.ofn_writer.proofs.ontologies.put_individuals.Goals as goal

pub loop-individual-preserved : goal.loop-individual-preserved
loop-individual-preserved c =
    declaration_lines_more (codes "NamedIndividual") c.args.ontology.now.individuals c.loop-individual.individual
    c.individual_name.result.now c.put_declaration.new.out.items c.loop-individual.out.items c.args.out.now.items
    (declaration_lines (codes "NamedIndividual") c.args.ontology.now.individuals) c.individual_name.ensures
    c.in_ok-put_declaration.ensures c.loop-individual.invariant
