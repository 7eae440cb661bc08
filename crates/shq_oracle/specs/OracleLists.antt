-- What contracts see of an oracle.
use Rattle.std.specs.Prelude.{ℕ, List}
use Rattle.shq_terms.specs.Listed.{Listed}
use Rattle.run_log.specs.declared.entry.Entry.{Entry}

-- the ontology, the budget of steps and nodes, and the log
pub record OracleLists : Type 0 where
  pub ontology : Listed
  pub budget : ℕ
  pub log : List Entry
