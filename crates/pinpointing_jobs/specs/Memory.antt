-- What is answered where memory was refused.
use Rattle.std.specs.Prelude.{ℕ, List}
use Rattle.job_inputs.specs.Refusals.{IsOutOfMemory}
use Rattle.job_inputs.specs.declared.status.Status.{Status}
use Rattle.job_inputs.specs.declared.status.Status.TheVariants.{NoMemory}

-- This is so, unless memory was refused; then the text says that, and what was begun is so.
abbrev pub UnlessNoMemory : Status → List ℕ → Type 0 → Type 0 → Type 0
UnlessNoMemory NoMemory out begun fact = IsOutOfMemory out begun
UnlessNoMemory s out begun fact = fact
