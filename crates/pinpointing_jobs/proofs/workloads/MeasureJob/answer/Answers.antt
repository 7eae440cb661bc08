use Rattle.std.proofs.Common.{}
use Rattle.job_inputs.specs.Answer.{text_bytes}
use Rattle.pinpointing_jobs.proofs.Listed.{of_axioms_found, all_counted, all_measured, measured_begun}
use Rattle.pinpointing_jobs.proofs.workloads.MeasureJob.answer.Goals as goal

pub count_answer-outcome-requires : goal.count_answer-outcome-requires
count_answer-outcome-requires c =
    let i = c.args.input.now in
    of_axioms_found i.ontology i.query c.args.self.now.budget c.search.new.log c.in_ok-found.found
    c.in_ok-found.ensures.found

pub returns-clause-answer : goal.returns-clause-answer
returns-clause-answer c =
    let i = c.args.input.now in
    all_counted i.ontology i.query c.args.self.now.budget c.search.new.log c.in_ok-found.found
    c.in_ok-found.ensures.found c.args.self.now.number c.count_answer-outcome.result text_bytes
    c.count_answer-outcome.ensures.told

pub returns-clause-begun : goal.returns-clause-begun
returns-clause-begun c =
    let i = c.args.input.now in
    all_measured i.ontology i.query c.args.self.now.budget c.search.new.log c.in_ok-found.found
    c.in_ok-found.ensures.found c.count_answer-outcome.result c.count_answer-outcome.ensures.refused

pub returns-in_err-found-clause-begun : goal.returns-in_err-found-clause-begun
returns-in_err-found-clause-begun c =
    let i = c.args.input.now in
    measured_begun c.from_residual.result i.ontology i.query c.args.self.now.budget c.search.new.log
    c.in_err-found.ensures.begun c.in_err-found.ensures.unspent
