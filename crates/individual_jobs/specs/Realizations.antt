-- What is answered to the jobs `realize` and `instances`.
use Rattle.std.specs.Prelude.{◌≡◌, ◌⊎◌, ℕ, false, [], List, codes}
use Rattle.std.specs.List.{list_any}
use Rattle.shq_terms.specs.Concept.{Concept}
use Rattle.shq_terms.specs.Listed.{Listed}
use Rattle.realizer.specs.Entry.{Entry}
use Rattle.realizer.specs.Entries.{is_spent}
use Rattle.realizer.specs.LogEnds.{EndsSpent}
use Rattle.realizer.specs.declared.types.Types.{Types}
use Rattle.realizer.specs.Instances.{AreInstances, instances_text}
use Rattle.realizer.specs.Realization.{AreTypes, realization_text}
use Rattle.realizer.specs.RealizationLogs.{IsInstancesLog, IsRealizationLog}
use Rattle.realizer.specs.ShownLogs.{ShowsInstances, ShowsTypes, SettlesClasses}
use Rattle.job_inputs.specs.Answer.{line}
use Rattle.job_inputs.specs.Refusals.{OnDocument, IsRefusedDocument, IsOutOfMemory}
use Rattle.job_inputs.specs.declared.status.Status.{Status}
use Rattle.job_inputs.specs.declared.status.Status.TheVariants.{Done, Rejected, BadWords, BadText, Outside, Limit}
use Rattle.job_inputs.specs.declared.status.Status.TheVariants.{ReadFault, WriteFault, Undecided, NoMemory}
use Rattle.individual_jobs.specs.Answers.{AnswersOnClass}

-- ---- the types of all individuals

-- they are found: the text is that of the realization, and the log is honest, shows it of each individual and each
-- class and of each two classes, and has no test that spent the budget
pub record IsRealized (budget : ℕ) (out : List ℕ) (log : List Entry) (o : Listed) : Type 0 where
  pub types : Types
  pub are_types : AreTypes o types
  pub text : out ≡ realization_text o types
  pub honest : IsRealizationLog o budget log
  pub shown : ShowsTypes o log
  pub classes : SettlesClasses o log
  pub unspent : list_any is_spent log ≡ false

-- the budget was spent in the middle of a test, the last one of an honest log, and the text says nothing else
pub record IsUnrealized (budget : ℕ) (out : List ℕ) (log : List Entry) (o : Listed) : Type 0 where
  pub text : out ≡ line (codes "undecided")
  pub honest : IsRealizationLog o budget log
  pub ends : EndsSpent budget log

-- where memory was refused, the log so far is honest and has no test that spent the budget
pub record IsRealizing (budget : ℕ) (log : List Entry) (o : Listed) : Type 0 where
  pub honest : IsRealizationLog o budget log
  pub unspent : list_any is_spent log ≡ false

-- where memory was refused: nothing was asked, or the document is read, and the log so far is such a one
abbrev pub BeginsRealization : ℕ → List ℕ → List Entry → Type 0
BeginsRealization budget bytes log = (log ≡ []) ⊎ OnDocument (IsRealizing budget log) bytes

-- what is answered to `realize`, for each status
abbrev pub AnswersRealization : ℕ → List ℕ → List ℕ → Status → List Entry → Type 0
AnswersRealization budget bytes out Done log = OnDocument (IsRealized budget out log) bytes
AnswersRealization budget bytes out Undecided log = OnDocument (IsUnrealized budget out log) bytes
AnswersRealization budget bytes out NoMemory log = IsOutOfMemory out (BeginsRealization budget bytes log)
AnswersRealization budget bytes out BadText log = IsRefusedDocument bytes out BadText log
AnswersRealization budget bytes out Outside log = IsRefusedDocument bytes out Outside log
AnswersRealization budget bytes out Limit log = IsRefusedDocument bytes out Limit log
AnswersRealization budget bytes out Rejected log = ⊥
AnswersRealization budget bytes out BadWords log = ⊥
AnswersRealization budget bytes out ReadFault log = ⊥
AnswersRealization budget bytes out WriteFault log = ⊥

-- ---- the instances of a class expression

-- they are found: the text lists them, and the log is honest, shows it of each individual, and has no test that spent
-- the budget
pub record IsFound (budget : ℕ) (out : List ℕ) (log : List Entry) (o : Listed) (c : Concept) : Type 0 where
  pub found : List ℕ
  pub are_instances : AreInstances o c found
  pub text : out ≡ instances_text o found
  pub honest : IsInstancesLog o c budget log
  pub shown : ShowsInstances o c log
  pub unspent : list_any is_spent log ≡ false

-- the budget was spent in the middle of a test, the last one of an honest log, and the text says nothing else
pub record IsUnfound (budget : ℕ) (out : List ℕ) (log : List Entry) (o : Listed) (c : Concept) : Type 0 where
  pub text : out ≡ line (codes "undecided")
  pub honest : IsInstancesLog o c budget log
  pub ends : EndsSpent budget log

-- where memory was refused, the log so far is honest and has no test that spent the budget
pub record IsFinding (budget : ℕ) (log : List Entry) (o : Listed) (c : Concept) : Type 0 where
  pub honest : IsInstancesLog o c budget log
  pub unspent : list_any is_spent log ≡ false

-- what is answered to `instances`, for each status
abbrev pub AnswersInstances : List ℕ → ℕ → List ℕ → List ℕ → Status → List Entry → Type 0
AnswersInstances class budget bytes out s log =
    AnswersOnClass (IsFound budget out log) (IsUnfound budget out log) (IsFinding budget log) class bytes out s log
