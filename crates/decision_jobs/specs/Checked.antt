-- What is answered to a verification.
use Rattle.std.specs.Prelude.{◌≡◌, ℕ, List}
use Rattle.job_inputs.specs.Answer.{no_memory, IsAnswer}
use Rattle.job_inputs.specs.Asked.{Reply}
use Rattle.job_inputs.specs.Replies.{reply_answer}
use Rattle.job_inputs.specs.declared.status.Status.{Status}
use Rattle.job_inputs.specs.declared.status.Status.TheVariants.{NoMemory}
use Rattle.decision_jobs.specs.Checking.{IsReply}

-- the answer of a verification
abbrev pub Checked : List ℕ → List ℕ → List ℕ → Status → Type 0
Checked query bytes out NoMemory = out ≡ no_memory
Checked query bytes out s = (r : Reply) × IsReply query bytes r × IsAnswer (reply_answer r) out s
