-- What is answered to the job of classification.
use Rattle.std.specs.Prelude.{◌≡◌, ◌⊎◌, ℕ, false, [], List, codes}
use Rattle.std.specs.List.{list_any}
use Rattle.shq_terms.specs.Listed.{Listed}
use Rattle.classifier.specs.Entry.{Entry}
use Rattle.classifier.specs.Entries.{is_spent}
use Rattle.classifier.specs.HonestLog.{IsClassificationLog}
use Rattle.classifier.specs.Shown.{ShowsClasses}
use Rattle.classifier.specs.Subsumption.{IsSubsumption}
use Rattle.classifier.specs.LogEnds.{EndsSpent}
use Rattle.classifier.specs.Excluded.{AsksNoExcluded}
use Rattle.classifier.specs.Groups.{Parthood}
use Rattle.classification_jobs.specs.TaxonomyText.{taxonomy_text}
use Rattle.classification_jobs.specs.TaxonomyLaws.{taxonomy_by}
use Rattle.job_inputs.specs.Answer.{line}
use Rattle.job_inputs.specs.declared.status.Status.{Status}
use Rattle.job_inputs.specs.declared.status.Status.TheVariants.{Done, Undecided, NoMemory}
use Rattle.job_inputs.specs.Refusals.{OnDocument, IsRefusedDocument, IsOutOfMemory}

-- ---- answers on an ontology

-- each two of its classes are decided: the text is that of their taxonomy, and the log is honest, shows it, and asks
-- nothing that was ruled out
pub record IsFinished (budget : ℕ) (out : List ℕ) (log : List Entry) (o : Listed) : Type 0 where
  pub part_of : Parthood
  pub is_so : IsSubsumption o part_of
  pub text : out ≡ taxonomy_text o (taxonomy_by o part_of)
  pub honest : IsClassificationLog o budget log
  pub excluded : AsksNoExcluded log
  pub shown : ShowsClasses o log

-- the budget was spent in the middle of a test, the last one of an honest log that asks nothing that was ruled out, and
-- the text says nothing else
pub record IsUnfinished (budget : ℕ) (out : List ℕ) (log : List Entry) (o : Listed) : Type 0 where
  pub text : out ≡ line (codes "undecided")
  pub honest : IsClassificationLog o budget log
  pub excluded : AsksNoExcluded log
  pub ends : EndsSpent budget log

-- where memory was refused: the log so far is honest, asks nothing that was ruled out, and has no test that spent the
-- budget
pub record IsClassifying (budget : ℕ) (log : List Entry) (o : Listed) : Type 0 where
  pub honest : IsClassificationLog o budget log
  pub excluded : AsksNoExcluded log
  pub unspent : list_any is_spent log ≡ false

-- ---- the answer on a document

-- where memory was refused: nothing was asked, or the document is read
abbrev pub BeginsClassification : ℕ → List ℕ → List Entry → Type 0
BeginsClassification budget bytes log = (log ≡ []) ⊎ OnDocument (IsClassifying budget log) bytes

-- the answer, unless memory was refused
abbrev pub AnswersClassification : ℕ → List ℕ → List ℕ → Status → List Entry → Type 0
AnswersClassification budget bytes out NoMemory log = IsOutOfMemory out (BeginsClassification budget bytes log)
AnswersClassification budget bytes out Done log = OnDocument (IsFinished budget out log) bytes
AnswersClassification budget bytes out Undecided log = OnDocument (IsUnfinished budget out log) bytes
AnswersClassification budget bytes out s log = IsRefusedDocument bytes out s log
