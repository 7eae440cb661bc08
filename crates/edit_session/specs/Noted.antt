-- What a session notes of a log.
use Rattle.std.specs.Prelude.{ℕ, List, []}

-- how many entries of a log were noted, and under the print of its query where each of these stands that may answer
pub record Noted : Type 0 where
  pub seen : ℕ
  pub places : List (List ℕ)

-- nothing is noted of a log yet
abbrev pub nothing_noted : Noted
nothing_noted = record { seen = 0; places = [] }
