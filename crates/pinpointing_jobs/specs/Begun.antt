-- How far a search for justifications and repairs has come where memory was refused.
use Rattle.std.specs.Prelude.{◌≡◌, ◌⊎◌, ℕ, false, [], List}
use Rattle.std.specs.List.{list_any}
use Rattle.shq_terms.specs.Listed.{Listed}
use Rattle.shq_terms.specs.declared.axioms.Query.{Query as Asked}
use Rattle.query_asker.specs.Entry.{Entry}
use Rattle.query_asker.specs.Entries.{is_spent}
use Rattle.query_asker.specs.HonestLog.{IsPinpointingLog}

-- nothing was asked, or the log is honest: its tests are so, within the budget and the module, nothing was asked twice,
-- its nodes are those of a hitting-set tree, and no more was asked than goes with them
abbrev pub HasSearched : Listed → Asked → ℕ → List Entry → Type 0
HasSearched o q budget log = (log ≡ []) ⊎ IsPinpointingLog o q budget log

-- an honest log in which no test ended because the budget was spent
pub record IsUnspentLog (o : Listed) (q : Asked) (budget : ℕ) (log : List Entry) : Type 0 where
  pub honest : IsPinpointingLog o q budget log
  pub unspent : list_any is_spent log ≡ false

-- The same of a search whose sets are counted: nothing was asked, or the log is such a one. That the budget was spent
-- is told without memory.
abbrev pub HasMeasured : Listed → Asked → ℕ → List Entry → Type 0
HasMeasured o q budget log = (log ≡ []) ⊎ IsUnspentLog o q budget log
