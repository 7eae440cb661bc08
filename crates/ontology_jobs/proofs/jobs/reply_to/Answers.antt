use Rattle.std.proofs.Common.{◌≡◌, List, ℕ, Option, Err, Some, refl, ap, sym, subst, ◌∙◌}
use Rattle.job_inputs.specs.Answer.{text_bytes}
use Rattle.job_inputs.specs.declared.status.Status.TheVariants.{BadWords}
use Rattle.ontology_jobs.specs.Words.{Request, generated, kept_job, command_request, texts_of}
use Rattle.ontology_jobs.specs.Answers.{bad_words, AnswersRequestOnAll, LeavesFor}
use Rattle.ontology_jobs.proofs.Replies.{generated_answers, generated_leaves, read_answers, end_answers, whole_leaves}
use Rattle.ontology_jobs.proofs.Replies.{too_long_leaves, end_leaves, words_answers, bad_words_answers}
use Rattle.ontology_jobs.proofs.jobs.reply_to.Goals as goal

pub returns-in-None-clause-answers : goal.returns-in-None-clause-answers
returns-in-None-clause-answers g c =
    bad_words_answers (g.S.Source.left c.args.source.now) (texts_of c.args.words.now) bad_words BadWords c.args.log.now
    c.in-None.ensures (record { status = refl; text = refl; unlogged = c.requires })

pub returns-in-Workload-clause-answers : goal.returns-in-Workload-clause-answers
returns-in-Workload-clause-answers g c =
    let held = g.S.Source.left c.args.source.now in
    let out = text_bytes c.run_workload.result.1 in
    let status = c.run_workload.result.0 in
    let log = c.run_workload.new.log in
    words_answers held (texts_of c.args.words.now) (command_request c.in-Some.command) out status log c.in-Some.ensures
    (subst (λ (r : Request). AnswersRequestOnAll r held out status log)
    (ap (λ n. generated n c.in-Workload.budget) c.get.ensures.value ∙ ap command_request (sym c.in-Workload.is))
    (generated_answers held c.get.result c.in-Workload.budget out status log c.run_workload.ensures.answer))

pub returns-in-Workload-clause-leaves : goal.returns-in-Workload-clause-leaves
returns-in-Workload-clause-leaves g c =
    let held = g.S.Source.left c.args.source.now in
    let status = c.run_workload.result.0 in
    subst (λ (r : Option Request). LeavesFor r held held status) c.in-Some.ensures
    (subst (λ (r : Request). LeavesFor (Some r) held held status)
    (ap (λ n. generated n c.in-Workload.budget) c.get.ensures.value ∙ ap command_request (sym c.in-Workload.is))
    (generated_leaves held c.get.result c.in-Workload.budget status))

pub returns-in-Ok-clause-answers : goal.returns-in-Ok-clause-answers
returns-in-Ok-clause-answers g c =
    let held = g.S.Source.left c.args.source.now in
    let out = text_bytes c.do_on.result.1 in
    let status = c.do_on.result.0 in
    let log = c.do_on.new.log in
    words_answers held (texts_of c.args.words.now) (command_request c.in-Some.command) out status log c.in-Some.ensures
    (subst (λ (r : Request). AnswersRequestOnAll r held out status log) (ap command_request (sym c.in-OnInput.is))
    (read_answers held (g.S.Source.left c.read_all.new.source) (kept_job c.in-OnInput.job) c.in-Ok.input.items
    c.deref.result.now out status log c.in-Ok.ensures.whole c.in-Ok.ensures.ended c.in-Ok.ensures.bounded
    c.deref.ensures.value c.do_on.ensures.no_fault c.do_on.ensures.answers))

pub returns-in-Ok-clause-leaves : goal.returns-in-Ok-clause-leaves
returns-in-Ok-clause-leaves g c =
    let before = g.S.Source.left c.args.source.now in
    let now = g.S.Source.left c.read_all.new.source in
    let status = c.do_on.result.0 in
    subst (λ (r : Option Request). LeavesFor r before now status) c.in-Some.ensures
    (subst (λ (r : Request). LeavesFor (Some r) before now status) (ap command_request (sym c.in-OnInput.is))
    (whole_leaves before now (kept_job c.in-OnInput.job) c.in-Ok.input.items status c.in-Ok.ensures.whole
    c.in-Ok.ensures.ended c.in-Ok.ensures.bounded))

pub returns-in-Err-clause-answers : goal.returns-in-Err-clause-answers
returns-in-Err-clause-answers g c =
    let held = g.S.Source.left c.args.source.now in
    let out = text_bytes c.end_reply.result.1 in
    let status = c.end_reply.result.0 in
    let log = c.args.log.now in
    words_answers held (texts_of c.args.words.now) (command_request c.in-Some.command) out status log c.in-Some.ensures
    (subst (λ (r : Request). AnswersRequestOnAll r held out status log) (ap command_request (sym c.in-OnInput.is))
    (end_answers held (g.S.Source.left c.read_all.new.source) (kept_job c.in-OnInput.job) out status log c.in-Err.end
    c.end_reply.ensures c.requires (λ long. c.in-Err.ensures.too_long (ap (λ e. Err e) long))
    (λ long. c.in-Err.ensures.longer (ap (λ e. Err e) long))))

pub returns-in-Err-clause-leaves : goal.returns-in-Err-clause-leaves
returns-in-Err-clause-leaves g c =
    let before = g.S.Source.left c.args.source.now in
    let now = g.S.Source.left c.read_all.new.source in
    let job = kept_job c.in-OnInput.job in
    let status = c.end_reply.result.0 in
    subst (λ (r : Option Request). LeavesFor r before now status) c.in-Some.ensures
    (subst (λ (r : Request). LeavesFor (Some r) before now status) (ap command_request (sym c.in-OnInput.is))
    (end_leaves before now job (text_bytes c.end_reply.result.1) status c.in-Err.end c.end_reply.ensures
    (λ long. too_long_leaves before now job (c.in-Err.ensures.too_long (ap (λ e. Err e) long))
    (c.in-Err.ensures.longer (ap (λ e. Err e) long)))))
