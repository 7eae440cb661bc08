-- How the questions stop before their end.
use Rattle.std.specs.Prelude.{◌≡◌, ℕ, false, List}
use Rattle.std.specs.List.{list_any}
use Rattle.shq_oracle.specs.Entry.{Entry}
use Rattle.shq_oracle.specs.Entries.{is_spent}
use Rattle.subsumption.specs.LogEnds.{EndsSpent}
use Rattle.subsumption.specs.declared.stop.Stop.{Stop}
use Rattle.subsumption.specs.declared.stop.Stop.TheVariants.{NoMemory, Spent}

-- what the log says of such a stop: a test that spent the budget is never told as want of memory
abbrev pub IsStop : ℕ → List Entry → Stop → Type 0
IsStop budget log NoMemory = list_any is_spent log ≡ false
IsStop budget log Spent = EndsSpent budget log
