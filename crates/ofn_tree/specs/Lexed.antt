-- The tokens that were read, as contracts see them.
use Rattle.std.specs.Prelude.{ℕ, List, map}
use Rattle.ofn_tree.specs.declared.token.Token.{Token}
use Rattle.ofn_tree.specs.Token.{plain_token}
use Rattle.ofn_tree.specs.Document.{DocumentTokens}

-- the tokens that were read, with the place behind them
abbrev pub reading_of : List Token → ℕ → DocumentTokens
reading_of ts place = record { tokens = map plain_token ts; place_behind = place }
