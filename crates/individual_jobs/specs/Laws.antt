-- What follows of answers.
use Rattle.std.specs.Prelude.{◌≡◌, ℕ, List}
use Rattle.realizer.specs.Entry.{Entry}
use Rattle.job_inputs.specs.declared.status.Status.TheVariants.{Done}
use Rattle.individual_jobs.specs.Answers.{AnswersWhy}
use Rattle.individual_jobs.specs.Realizations.{AnswersRealization, AnswersInstances}

-- two answers to the same bytes that are done are the same text, whatever the budgets
abbrev pub RealizationsAreUnique : Type 0
RealizationsAreUnique =
    (b c : ℕ) (bytes out text : List ℕ) (log more : List Entry) → AnswersRealization b bytes out Done log
    → AnswersRealization c bytes text Done more → out ≡ text

-- so are two answers to the same class expression and bytes which individuals are in it
abbrev pub InstancesAreUnique : Type 0
InstancesAreUnique =
    (class : List ℕ) (b c : ℕ) (bytes out text : List ℕ) (log more : List Entry)
    → AnswersInstances class b bytes out Done log → AnswersInstances class c bytes text Done more → out ≡ text

-- and why they are
abbrev pub ReasonsAreUnique : Type 0
ReasonsAreUnique =
    (class : List ℕ) (b c : ℕ) (bytes out text : List ℕ) (log more : List Entry) → AnswersWhy class b bytes out Done log
    → AnswersWhy class c bytes text Done more → out ≡ text
