-- How a job on a document has answered, by what it reads, how it answers that, and what it has begun where memory was
-- refused.
use Rattle.std.specs.Prelude.{ℕ, List}
use Rattle.job_inputs.specs.Answer.{no_memory, Gives, IsAnswer}
use Rattle.job_inputs.specs.Replies.{unread_answer}
use Rattle.job_inputs.specs.declared.status.Status.{Status}
use Rattle.job_inputs.specs.declared.status.Status.TheVariants.{NoMemory}
use Rattle.job_inputs.specs.declared.unread.Unread.{Unread}

-- an input was read and answered; it is refused, and nothing was asked; or memory was refused after it was read
pub data HasAnswered {I L : Type 0} (is_input : I → Type 0) (is_unread : Unread → Type 0) (is_unlogged : L → Type 0)
    (answers : I → L → Status → List ℕ → Type 0) (begins : I → L → Type 0) (log : L) (out : List ℕ) (s : Status) :
    Type 0 where
  answered : (input : I) → is_input input → answers input log s out
      → HasAnswered is_input is_unread is_unlogged answers begins log out s
  unread : (u : Unread) → is_unread u → is_unlogged log → Gives (unread_answer u) out s
      → HasAnswered is_input is_unread is_unlogged answers begins log out s
  out_of_memory : (input : I) → is_input input → begins input log → IsAnswer (NoMemory, no_memory) out s
      → HasAnswered is_input is_unread is_unlogged answers begins log out s
