-- What is known while a document with a script behind it is answered.
use Rattle.std.specs.Prelude.{◌≡◌, ℕ, List, []}
use Rattle.ofn_reader.specs.Documents.{IsNoDocument}
use Rattle.shq_oracle.specs.Entry.{Entry}
use Rattle.job_inputs.specs.declared.status.Status.{Status}
use Rattle.job_inputs.specs.declared.status.Status.TheVariants.{Done, Rejected, BadWords, BadText, Outside, Limit}
use Rattle.job_inputs.specs.declared.status.Status.TheVariants.{ReadFault, WriteFault, Undecided, NoMemory}
use Rattle.job_inputs.specs.declared.unread.Unread.{Unread}
use Rattle.job_inputs.specs.declared.unread.Unread.TheVariants as U
use Rattle.edit_session.specs.Sessions.{State}
use Rattle.edit_session.specs.Answers.{AnswersAllLines, AnswersFirstLines, BeginsSession}
use Rattle.edit_session.specs.declared.said.Said.{Said}
use Rattle.edit_session.specs.declared.said.Said.TheVariants.{Answered, Spent}

-- how a run ends whose script ended so
abbrev pub end_status : Said → Status
end_status Answered = Done
end_status Spent = Undecided

-- the lines of a text are answered from a state on, by a run that ends so
abbrev pub AnswersLines : ℕ → List Entry → Status → List ℕ → State → List (List ℕ) → Type 0
AnswersLines budget log Done out s ls = AnswersAllLines budget out log s ls
AnswersLines budget log Undecided out s ls = AnswersFirstLines budget out log s ls
AnswersLines budget log Rejected out s ls = ⊥
AnswersLines budget log BadWords out s ls = ⊥
AnswersLines budget log BadText out s ls = ⊥
AnswersLines budget log Outside out s ls = ⊥
AnswersLines budget log Limit out s ls = ⊥
AnswersLines budget log ReadFault out s ls = ⊥
AnswersLines budget log WriteFault out s ls = ⊥
AnswersLines budget log NoMemory out s ls = ⊥

-- why a document is not answered, and then nothing was asked; or memory was refused
abbrev pub IsUnanswered : ℕ → List ℕ → List Entry → Unread → Type 0
IsUnanswered budget bytes log (U.Document e) = IsNoDocument bytes e × (log ≡ [])
IsUnanswered budget bytes log (U.Query e) = ⊥
IsUnanswered budget bytes log (U.Line n) = ⊥
IsUnanswered budget bytes log U.NoMemory = BeginsSession budget bytes log
