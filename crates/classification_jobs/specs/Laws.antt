-- What follows of answers.
use Rattle.std.specs.Prelude.{◌≡◌, ℕ, List}
use Rattle.classifier.specs.Entry.{Entry}
use Rattle.job_inputs.specs.declared.status.Status.TheVariants.{Done}
use Rattle.classification_jobs.specs.Classifications.{AnswersClassification}

-- two answers to the same bytes that are done are the same text
abbrev pub AnsweredAlike : Type 0
AnsweredAlike = (b c : ℕ) (bytes out text : List ℕ) (log more : List Entry) → AnswersClassification b bytes out Done log
    → AnswersClassification c bytes text Done more → out ≡ text
