-- What may stand after a document.
use Rattle.std.specs.Prelude.{◌≡◌, ◌≢◌, ℕ, ◌+◌, ◌<◌, true, false, List, length, take, drop, slice_index}
use Rattle.ofn_tree.specs.Lexemes.{is_whitespace, line_feeds}
use Rattle.ofn_tree.specs.TokenLaws.{IsGap}

-- whitespace and comments alone
abbrev pub IsOnlyGap : List ℕ → Type 0
IsOnlyGap text = IsGap true text

-- the byte at this place is the first that is neither whitespace nor part of a comment
pub record IsStray (text : List ℕ) (place : ℕ) : Type 0 where
  pub within : place < length text
  pub before : IsGap false (take place text)
  pub no_space : is_whitespace (slice_index text place) ≡ false
  pub no_comment : slice_index text place ≢ 35

-- the line of the byte at a place of a text
abbrev pub line_at : List ℕ → ℕ → ℕ
line_at text place = 1 + line_feeds (take place text)

-- the line is that of the first such byte behind a place
abbrev pub IsStrayLine : List ℕ → ℕ → ℕ → Type 0
IsStrayLine text end line = (place : ℕ) × IsStray (drop end text) place × (line ≡ line_at text (end + place))

-- the first bytes are whitespace or a comment: what stands after them decides what stands in the text
pub record Skips (text : List ℕ) (count : ℕ) : Type 0 where
  pub gap : IsOnlyGap (drop count text) → IsOnlyGap text
  pub stray : (place : ℕ) → IsStray (drop count text) place → IsStray text (count + place)
