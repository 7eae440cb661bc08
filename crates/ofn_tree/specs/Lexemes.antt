-- A text cut into pieces: whitespace, comments, and at each place the longest token that its form allows. All that
-- parts two tokens is ASCII, so the text is cut byte by byte.
use Rattle.std.specs.Prelude.{ℕ, zero, suc, ◌+◌, List, [], ◌∷◌, Bool, true, false, not, ◌&&◌, ◌||◌, nat_eq, nat_lt}
use Rattle.std.specs.Prelude.{Option, Some, None, if◌then◌else◌, length, take, drop, slice_index, count_by}
use Rattle.std.specs.List.{prefix_len, starts_with}
use Rattle.std.specs.Char.{is_ascii_alphanumeric}
use Rattle.std.specs.Str.Lossy.{utf8_valid_len}
use Rattle.ofn_tree.specs.declared.token.Kind.{Kind}
use Rattle.ofn_tree.specs.declared.token.Kind.TheVariants.{OpenBracket, CloseBracket, Equals, Iri, String, Tag, Carets}
use Rattle.ofn_tree.specs.declared.token.Kind.TheVariants.{Name}
use Rattle.ofn_tree.specs.declared.fault.TextFault.{TextFault}
use Rattle.ofn_tree.specs.declared.fault.TextFault.TheVariants.{BadUtf8, BadToken}
use Rattle.ofn_tree.specs.Token.{PlainToken}

-- ---- bytes

-- blank, tab, line feed and carriage return
abbrev pub is_whitespace : ℕ → Bool
is_whitespace b = nat_eq b 32 || nat_eq b 9 || nat_eq b 10 || nat_eq b 13

-- neither whitespace nor a control character; each byte of a character beyond ASCII is plain
abbrev pub is_printing : ℕ → Bool
is_printing b = nat_lt 32 b && not (nat_eq b 127)

-- of an IRI: none of `< > "`
abbrev pub is_iri_byte : ℕ → Bool
is_iri_byte b = is_printing b && not (nat_eq b 60) && not (nat_eq b 62) && not (nat_eq b 34)

-- of a name: none of `( ) = < > " # @ ^`
abbrev pub is_name_byte : ℕ → Bool
is_name_byte b =
    is_printing b && not (nat_eq b 40) && not (nat_eq b 41) && not (nat_eq b 61) && not (nat_eq b 60)
    && not (nat_eq b 62) && not (nat_eq b 34) && not (nat_eq b 35) && not (nat_eq b 64) && not (nat_eq b 94)

-- of a tag after its `@`: an ASCII letter or digit, or `-`
abbrev pub is_tag_byte : ℕ → Bool
is_tag_byte b = is_ascii_alphanumeric b || nat_eq b 45

-- of a comment: neither line feed nor carriage return
abbrev pub is_comment_byte : ℕ → Bool
is_comment_byte b = not (nat_eq b 10) && not (nat_eq b 13)

-- ---- lines

-- the byte is a line feed
abbrev pub is_line_feed : ℕ → Bool
is_line_feed b = nat_eq b 10

-- how many line feeds there are
abbrev pub line_feeds : List ℕ → ℕ
line_feeds bs = count_by is_line_feed bs

-- the line on which a text ends
abbrev pub end_line : List ℕ → ℕ
end_line text = 1 + line_feeds text

-- the line after a byte on a line
abbrev pub line_behind : ℕ → ℕ → ℕ
line_behind b line = if is_line_feed b then line + 1 else line

-- ---- tokens

-- what stands at the front of some bytes: its kind, its text, and how many bytes it has after its first
pub record Lexeme : Type 0 where
  pub kind : Kind
  pub text : List ℕ
  pub more : ℕ

-- the front of some bytes: whitespace or a comment, with how many bytes it has after its first; a whole token; a token
-- that a character breaks, or a character that begins none; or a token that goes on where the bytes end
pub data Cut : Type 0 where
  gap : ℕ → Cut
  token : Lexeme → Cut
  wrong : Cut
  unended : Cut

-- a token is not whole, and these bytes stand after what there is of it
abbrev pub cut_short : List ℕ → Cut
cut_short [] = unended
cut_short (b ∷ bs) = wrong

-- after a `<`, whose IRI would have n bytes: those, and then `>`
abbrev pub iri_at : ℕ → List ℕ → Cut
iri_at n bs =
    if nat_eq (slice_index bs n) 62 then token (record { kind = Iri; text = take n bs; more = n + 1 })
    else cut_short (drop n bs)

-- how a string goes on: its end is after so many bytes, a character breaks it, or the bytes end
pub data Quoted : Type 0 where
  closes : ℕ → Quoted
  breaks : Quoted
  runs_on : Quoted

-- the same end of a string, seen from one byte before
abbrev pub longer : Quoted → Quoted
longer (closes n) = closes (n + 1)
longer breaks = breaks
longer runs_on = runs_on

-- how a string goes on in some bytes, after a backslash or not: in it `"` and `\` stand after a backslash alone, and
-- nothing else stands after one
abbrev pub quoted : Bool → List ℕ → Quoted
quoted escaped [] = runs_on
quoted true (b ∷ bs) = if nat_eq b 34 || nat_eq b 92 then longer (quoted false bs) else breaks
quoted false (b ∷ bs) = if nat_eq b 34 then closes 0 else longer (quoted (nat_eq b 92) bs)

-- after the `"` that begins a string, which goes on so
abbrev pub string_at : Quoted → List ℕ → Cut
string_at (closes n) bs = token (record { kind = String; text = take n bs; more = n + 1 })
string_at breaks bs = wrong
string_at runs_on bs = unended

-- after an `@`, which is b and whose tag would have n bytes more
abbrev pub tag_at : ℕ → ℕ → List ℕ → Cut
tag_at n b bs = if nat_eq n 0 then cut_short bs else token (record { kind = Tag; text = b ∷ take n bs; more = n })

-- after a `^`, which is b: another
abbrev pub carets_at : ℕ → List ℕ → Cut
carets_at b bs =
    if nat_eq (slice_index bs 0) 94 then token (record { kind = Carets; text = b ∷ take 1 bs; more = 1 })
    else cut_short bs

-- a name that begins with b and goes on for n bytes
abbrev pub name_at : ℕ → ℕ → List ℕ → Cut
name_at n b bs = token (record { kind = Name; text = b ∷ take n bs; more = n })

-- the tag at the front of a text whose first byte is its `@`
abbrev pub front_tag : List ℕ → Cut
front_tag text = tag_at (prefix_len is_tag_byte (drop 1 text)) (slice_index text 0) (drop 1 text)

-- the name that begins with the first byte of a text
abbrev pub front_name : List ℕ → Cut
front_name text = name_at (prefix_len is_name_byte (drop 1 text)) (slice_index text 0) (drop 1 text)

-- a token of one character
abbrev pub sign_at : Kind → ℕ → Cut
sign_at kind b = token (record { kind = kind; text = b ∷ []; more = 0 })

-- what begins with b, after which bs stand
abbrev pub cut_at : ℕ → List ℕ → Cut
cut_at b bs =
    if is_whitespace b then gap 0
    else if nat_eq b 35 then gap (prefix_len is_comment_byte bs)
    else if nat_eq b 40 then sign_at OpenBracket b
    else if nat_eq b 41 then sign_at CloseBracket b
    else if nat_eq b 61 then sign_at Equals b
    else if nat_eq b 60 then iri_at (prefix_len is_iri_byte bs) bs
    else if nat_eq b 34 then string_at (quoted false bs) bs
    else if nat_eq b 64 then tag_at (prefix_len is_tag_byte bs) b bs
    else if nat_eq b 94 then carets_at b bs
    else if is_name_byte b then name_at (prefix_len is_name_byte bs) b bs
    else wrong

-- ---- pieces

-- a piece of a text: a token and the place after it, or a fault
pub data Piece : Type 0 where
  whole : PlainToken → ℕ → Piece
  faulty : TextFault → Piece

-- What ends a text: its end, or on some line a byte that is not part of UTF-8.
abbrev pub end_pieces : Option ℕ → List Piece
end_pieces None = []
end_pieces (Some bad) = faulty (BadUtf8 bad) ∷ []

-- the fault of a token on a line that goes on there
abbrev pub unended_fault : Option ℕ → ℕ → TextFault
unended_fault None line = BadToken line
unended_fault (Some bad) line = BadUtf8 bad

-- the token at a place on a line
abbrev pub token_of : ℕ → ℕ → Lexeme → PlainToken
token_of place line x = record { kind = x.kind; text = x.text; start = place; line = line }

-- the pieces of a text that ends so, from a place on a line on, where this stands at the front of the rest, and `rest`
-- gives the pieces after so many bytes more
abbrev pub pieces_with : Option ℕ → Cut → ℕ → ℕ → (ℕ → List Piece) → List Piece
pieces_with end (gap more) place line rest = rest more
pieces_with end (token x) place line rest = whole (token_of place line x) (place + (x.more + 1)) ∷ rest x.more
pieces_with end wrong place line rest = faulty (BadToken line) ∷ []
pieces_with end unended place line rest = faulty (unended_fault end line) ∷ []

-- the pieces of bytes that stand at a place on a line, of which the first k are skipped, in a text that ends so; a
-- fault is the last
abbrev pub pieces_from : Option ℕ → ℕ → ℕ → ℕ → List ℕ → List Piece
pieces_from end k place line [] = end_pieces end
pieces_from end (suc k) place line (b ∷ bs) = pieces_from end k (place + 1) (line_behind b line) bs
pieces_from end zero place line (b ∷ bs) =
    pieces_with end (cut_at b bs) place line (λ n. pieces_from end n (place + 1) (line_behind b line) bs)

-- the longest front of a text that is UTF-8
abbrev pub utf8_front : List ℕ → List ℕ
utf8_front text = take (utf8_valid_len text) text

-- the line of the first byte of a text that is not part of UTF-8, if there is one
abbrev pub bad_byte_line : List ℕ → Option ℕ
bad_byte_line text = if nat_lt (utf8_valid_len text) (length text) then Some (end_line (utf8_front text)) else None

-- the bytes EF BB BF
abbrev pub byte_order_mark : List ℕ
byte_order_mark = 0xEF ∷ 0xBB ∷ 0xBF ∷ []

-- how long the byte order mark at the start of a text is
abbrev pub mark_len : List ℕ → ℕ
mark_len text = if starts_with nat_eq text byte_order_mark then 3 else 0

-- the pieces of a text that is UTF-8, or of the front that is, by what ends it
abbrev pub front_pieces : Option ℕ → List ℕ → List Piece
front_pieces end front = pieces_from end (mark_len front) 0 1 front

-- the pieces of a text
abbrev pub pieces : List ℕ → List Piece
pieces text = front_pieces (bad_byte_line text) (utf8_front text)
