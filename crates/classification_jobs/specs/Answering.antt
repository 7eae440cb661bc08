-- What is answered on an ontology.
use Rattle.std.specs.Prelude.{ℕ, List}
use Rattle.shq_terms.specs.Listed.{Listed}
use Rattle.classifier.specs.Entry.{Entry}
use Rattle.job_inputs.specs.declared.status.Status.{Status}
use Rattle.job_inputs.specs.declared.status.Status.TheVariants.{Done, Undecided}
use Rattle.classification_jobs.specs.Classifications.{IsFinished, IsUnfinished}

-- the answer on an ontology
abbrev pub IsAnsweredOn : ℕ → Listed → List Entry → Status → List ℕ → Type 0
IsAnsweredOn budget o log Done out = IsFinished budget out log o
IsAnsweredOn budget o log Undecided out = IsUnfinished budget out log o
IsAnsweredOn budget o log _ out = ⊥
