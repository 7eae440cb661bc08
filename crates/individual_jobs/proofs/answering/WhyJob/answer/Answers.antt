use Rattle.realizer.proofs.Unique.{questions_in_limit}
use Rattle.job_inputs.specs.Answer.{text_bytes}
use Rattle.individual_jobs.proofs.Answered.{found_writable, all_explained, all_begun}
use Rattle.individual_jobs.proofs.answering.WhyJob.answer.Goals as goal

pub explain_all-requires-clause-in_limit : goal.explain_all-requires-clause-in_limit
explain_all-requires-clause-in_limit c a =
    questions_in_limit c.args.input.now.ontology c.args.input.now.query a c.requires.within

pub answer_of-outcome-requires : goal.answer_of-outcome-requires
answer_of-outcome-requires c =
    let i = c.args.input.now in
    found_writable i.ontology i.query.sub c.args.self.now.budget c.explain_all.new.log c.in_ok-explained.explained
    c.in_ok-explained.ensures.explained

pub returns-clause-answer : goal.returns-clause-answer
returns-clause-answer c =
    let i = c.args.input.now in
    all_explained i.ontology i.query.sub c.args.self.now.budget c.explain_all.new.log c.in_ok-explained.explained
    c.answer_of-outcome.result text_bytes c.in_ok-explained.ensures.explained c.answer_of-outcome.ensures.answer

pub returns-clause-begun : goal.returns-clause-begun
returns-clause-begun c =
    let i = c.args.input.now in
    all_begun i.ontology i.query.sub c.args.self.now.budget c.explain_all.new.log c.in_ok-explained.explained
    c.answer_of-outcome.result c.in_ok-explained.ensures.explained c.answer_of-outcome.ensures.refused
