use Rattle.std.proofs.Common.{subst}
use Rattle.job_inputs.specs.Answer.{text_bytes}
use Rattle.job_inputs.specs.declared.status.Status.{Status}
use Rattle.ontology_jobs.specs.Words.{request_of, texts_of}
use Rattle.ontology_jobs.specs.Answers.{AnswersAll}
use Rattle.ontology_jobs.proofs.BadWords.{all_ask_for_nothing}
use Rattle.ontology_jobs.proofs.Complete.{all_complete, faulty_complete}
use Rattle.ontology_jobs.proofs.jobs.run.Goals as goal

pub returns-in-Ok-clause-complete : goal.returns-in-Ok-clause-complete
returns-in-Ok-clause-complete g c =
    all_complete (g.S.Source.left c.args.source.now) (texts_of c.args.words.now) (text_bytes c.reply_to-status.result.1)
    c.reply_to-status.result.0 c.reply_to-status.new.log c.reply_to-status.ensures.answers

pub returns-in-Ok-clause-no_others : goal.returns-in-Ok-clause-no_others
returns-in-Ok-clause-no_others g c =
    let held = g.S.Source.left c.args.source.now in
    let words = texts_of c.args.words.now in
    let out = text_bytes c.reply_to-status.result.1 in
    let log = c.reply_to-status.new.log in
    λ is. all_ask_for_nothing held words out log
    (subst (λ (s : Status). AnswersAll held words out s log) is c.reply_to-status.ensures.answers)

pub returns-clause-complete : goal.returns-clause-complete
returns-clause-complete g c =
    faulty_complete (request_of (texts_of c.args.words.now)) (g.S.Source.left c.args.source.now)
    c.reply_to-status.new.log
