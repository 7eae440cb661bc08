-- What the lexer's own values stand for.
use Rattle.std.specs.Prelude.{◌≡◌, ℕ, ◌-◌, ◌<◌, ◌≤◌, List, length, take, slice_index, ⊤}
use Rattle.std.specs.Str.{IsCharBoundary}
use Rattle.ofn_tree.specs.declared.cut.Lexeme.{Lexeme}
use Rattle.ofn_tree.specs.declared.cut.Cut.{Cut}
use Rattle.ofn_tree.specs.declared.cut.Cut.TheVariants.{Gap, Token, Wrong, Unended}
use Rattle.ofn_tree.specs.declared.cut.StringEnd.{StringEnd}
use Rattle.ofn_tree.specs.declared.cut.StringEnd.TheVariants.{Closes, Breaks, RunsOn}
use Rattle.ofn_tree.specs.declared.lexer.Brackets.{Brackets}
use Rattle.ofn_tree.specs.Lexemes as front
use Rattle.ofn_tree.specs.Lexemes.{line_feeds}
use Rattle.ofn_tree.specs.Document.{Met}

-- the lexeme that one of the code stands for
abbrev pub lexeme_of : Lexeme → front.Lexeme
lexeme_of x = record { kind = x.kind; text = x.text.now; more = x.len - 1 }

-- what was cut at a place, as the definitions see it
abbrev pub cut_of : Cut → front.Cut
cut_of (Gap len feeds) = front.gap (len - 1)
cut_of (Token x) = front.token (lexeme_of x)
cut_of Wrong = front.wrong
cut_of Unended = front.unended

-- how a string ends, as the definitions see it
abbrev pub quoted_of : StringEnd → front.Quoted
quoted_of (Closes len feeds) = front.closes len
quoted_of Breaks = front.breaks
quoted_of RunsOn = front.runs_on

-- what was met so far, as the definitions see it
abbrev pub met_of : Brackets → Met
met_of b = record { depth = b.depth; document = b.document; latest = b.latest }

-- so many bytes are a front of a text, which ends between two of its characters
abbrev pub IsFront : List ℕ → ℕ → Type 0
IsFront text len = (1 ≤ len) × IsCharBoundary text len

-- whitespace, a comment or a token at the front of a text is a front of it
abbrev pub IsCutWithin : List ℕ → Cut → Type 0
IsCutWithin text (Gap len feeds) = IsFront text len
IsCutWithin text (Token x) = IsFront text x.len
IsCutWithin text Wrong = ⊤
IsCutWithin text Unended = ⊤

-- the quotation mark that closes a string is a byte of a text
abbrev pub ClosesWithin : List ℕ → StringEnd → Type 0
ClosesWithin text (Closes len feeds) = (len < length text) × (slice_index text len ≡ 34)
ClosesWithin text Breaks = ⊤
ClosesWithin text RunsOn = ⊤

-- so many of the first bytes of a text are line feeds
abbrev pub FeedsIn : List ℕ → ℕ → ℕ → Type 0
FeedsIn text len feeds = (line_feeds (take len text) ≡ feeds) × (feeds ≤ len)

-- the line feeds of what stands at the front of a text are told
abbrev pub HasFeeds : List ℕ → Cut → Type 0
HasFeeds text (Gap len feeds) = FeedsIn text len feeds
HasFeeds text (Token x) = FeedsIn text x.len x.line_feeds
HasFeeds text Wrong = ⊤
HasFeeds text Unended = ⊤

-- those before the quotation mark that closes a string are told
abbrev pub ClosesBehind : List ℕ → StringEnd → Type 0
ClosesBehind text (Closes len feeds) = FeedsIn text len feeds
ClosesBehind text Breaks = ⊤
ClosesBehind text RunsOn = ⊤
