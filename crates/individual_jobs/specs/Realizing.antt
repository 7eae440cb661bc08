-- What is known while the jobs `realize` and `instances` are answered.
use Rattle.std.specs.Prelude.{ℕ, List}
use Rattle.shq_terms.specs.Concept.{Concept}
use Rattle.shq_terms.specs.Listed.{Listed}
use Rattle.realizer.specs.Entry.{Entry}
use Rattle.job_inputs.specs.declared.status.Status.{Status}
use Rattle.individual_jobs.specs.Ends.{IsEnd}
use Rattle.individual_jobs.specs.Realizations.{IsRealized, IsUnrealized, IsFound, IsUnfound}

-- the types on an ontology
abbrev pub IsRealizedOn : ℕ → Listed → List Entry → Status → List ℕ → Type 0
IsRealizedOn budget o log s out = IsEnd (IsRealized budget out log o) (IsUnrealized budget out log o) s

-- the instances on an ontology
abbrev pub IsFoundOn : ℕ → Listed → Concept → List Entry → Status → List ℕ → Type 0
IsFoundOn budget o c log s out = IsEnd (IsFound budget out log o c) (IsUnfound budget out log o c) s
