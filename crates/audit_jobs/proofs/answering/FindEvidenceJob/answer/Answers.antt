use Rattle.std.proofs.Common.{}
use Rattle.job_inputs.specs.Answer.{text_bytes}
use Rattle.audit_jobs.proofs.Answered.{all_answered, all_logs}
use Rattle.audit_jobs.proofs.answering.FindEvidenceJob.answer.Goals as goal

pub returns-clause-answer : goal.returns-clause-answer
returns-clause-answer c =
    let i = c.args.input.now in
    all_answered i.ontology i.query c.args.self.now.budget c.search.new.log c.in_ok-searched.searched
    c.in_ok-searched.ensures.searched c.answer_of-outcome.result text_bytes c.answer_of-outcome.ensures.written

pub returns-clause-begun : goal.returns-clause-begun
returns-clause-begun c =
    let i = c.args.input.now in
    all_logs i.ontology i.query c.args.self.now.budget c.search.new.log c.in_ok-searched.searched
    c.in_ok-searched.ensures.searched c.answer_of-outcome.result c.answer_of-outcome.ensures.refused
