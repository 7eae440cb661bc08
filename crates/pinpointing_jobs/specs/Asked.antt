-- The statement of a run, once it is read.
use Rattle.std.specs.Prelude.{ℕ, List}
use Rattle.job_inputs.specs.declared.asking.Input.{Input}
use Rattle.job_inputs.specs.declared.unread.Unread.{Unread}
use Rattle.job_inputs.specs.Inputs.{IsInputOf, IsNoInputOf}
use Rattle.job_inputs.specs.Questions.{follows}

-- the bytes are a document, and the statement is a query on it
abbrev pub IsInput : List ℕ → List ℕ → Input → Type 0
IsInput statement bytes input = IsInputOf (follows statement) bytes input

-- why the bytes are no document, or the statement is no query on it
abbrev pub IsNoInput : List ℕ → List ℕ → Unread → Type 0
IsNoInput statement bytes u = IsNoInputOf (follows statement) bytes u
