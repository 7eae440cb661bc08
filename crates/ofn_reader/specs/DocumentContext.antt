-- What a query takes over from its document besides the names.
use Rattle.std.specs.Prelude.{ℕ, List}
use Rattle.ofn_expressions.specs.Names.{Prefix}

-- the prefixes that are declared, and the count of the nodes of class expressions
pub record DocumentContext : Type 0 where
  pub prefixes : List Prefix
  pub nodes : ℕ
