use Rattle.std.proofs.Common.{◌≡◌, ◌∙◌, ℕ, List, length, ap, arith}
use Rattle.workload.specs.WorkloadText.{workload_text}
use Rattle.pinpointing_jobs.proofs.Lengths.{workload_short}
use Rattle.pinpointing_jobs.proofs.workloads.run_workload.Goals as goal

pub answer_to-requires-clause-small : goal.answer_to-requires-clause-small
answer_to-requires-clause-small c =
    let text : c.deref.result.now ≡ workload_text c.args.number = c.deref.ensures.value ∙ c.in-Ok.ensures in
    omega (arith, ap length text, workload_short c.args.number c.requires.most)

pub returns-in-Ok-clause-answer : goal.returns-in-Ok-clause-answer
returns-in-Ok-clause-answer c =
    c.answer_to.ensures.answer (c.deref.ensures.value ∙ c.in-Ok.ensures) c.requires.most
