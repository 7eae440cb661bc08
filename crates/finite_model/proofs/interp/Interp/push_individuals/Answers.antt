use Rattle.std.proofs.Common.{◌∙◌, ◌++◌, ap}
use Rattle.finite_model.specs.Written.{individual_line, individual_lines}
use Rattle.finite_model.proofs.Texts.{individual_lines_more}
use Rattle.finite_model.proofs.interp.Interp.push_individuals.Goals as goal

pub loop-individual-preserved : goal.loop-individual-preserved
loop-individual-preserved c =
    individual_lines_more c.args.ontology.now.individuals c.loop-individual.individual c.individual_name.result.now
    c.args.self.now.individuals c.push_individual.new.text.items c.loop-individual.text.items c.args.text.now.items
    (individual_lines 0 c.args.ontology.now.individuals c.args.self.now.individuals) c.individual_name.ensures
    (c.in_ok-push_individual.ensures
    ∙ ap (λ x. c.loop-individual.text.items ++ individual_line c.individual_name.result.now x)
    c.individual-x.ensures.element)
    c.loop-individual.invariant
