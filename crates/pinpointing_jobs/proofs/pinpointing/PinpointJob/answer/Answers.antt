use Rattle.std.proofs.Common.{}
use Rattle.job_inputs.specs.Answer.{text_bytes}
use Rattle.pinpointing_jobs.proofs.Listed.{of_axioms_found, all_listed, all_fronts}
use Rattle.pinpointing_jobs.proofs.pinpointing.PinpointJob.answer.Goals as goal

pub list_answer-outcome-requires : goal.list_answer-outcome-requires
list_answer-outcome-requires c =
    let i = c.args.input.now in
    of_axioms_found i.ontology i.query c.args.self.now.budget c.search.new.log c.in_ok-found.found
    c.in_ok-found.ensures.found

pub returns-clause-answer : goal.returns-clause-answer
returns-clause-answer c =
    let i = c.args.input.now in
    all_listed i.ontology i.query c.args.self.now.budget c.search.new.log c.in_ok-found.found
    c.in_ok-found.ensures.found c.args.self.now.wanted c.list_answer-outcome.result text_bytes
    c.list_answer-outcome.ensures

pub returns-clause-begun : goal.returns-clause-begun
returns-clause-begun c =
    let i = c.args.input.now in
    all_fronts i.ontology i.query c.args.self.now.budget c.search.new.log c.in_ok-found.found
    c.in_ok-found.ensures.found c.list_answer-outcome.result
