-- The tokens that belong to the document: those up to the bracket that closes its group `Ontology`, or all.
use Rattle.std.specs.Prelude.{ℕ, ◌+◌, ◌-◌, List, [], ◌∷◌, length, Bool, true, false, ◌&&◌, nat_eq, Option, Result, Ok}
use Rattle.std.specs.Prelude.{Err, if◌then◌else◌, codes, bytes_eq}
use Rattle.std.specs.Result.{result_ok}
use Rattle.ofn_tree.specs.declared.token.Kind.{Kind}
use Rattle.ofn_tree.specs.declared.token.Kind.TheVariants.{OpenBracket, CloseBracket, String, Carets, Name}
use Rattle.ofn_tree.specs.declared.fault.TextFault.{TextFault}
use Rattle.ofn_tree.specs.declared.lexer.Latest.{Latest}
use Rattle.ofn_tree.specs.declared.lexer.Latest.TheVariants.{DocumentName, QuotedString, TypedString, Other}
use Rattle.ofn_tree.specs.Token.{PlainToken, is_close}
use Rattle.ofn_tree.specs.Lexemes.{Piece, whole, faulty, pieces}

-- what was met: how many brackets are open, whether the outermost of them opened the document's group, and what the
-- last tokens were
pub record Met : Type 0 where
  pub depth : ℕ
  pub document : Bool
  pub latest : Latest

-- what is known before the first token: no bracket is open, and no document has begun
abbrev pub nothing_met : Met
nothing_met = record { depth = 0; document = false; latest = Other }

-- the token closes the document's group
abbrev pub is_last : Met → PlainToken → Bool
is_last m t = is_close t.kind && nat_eq m.depth 1 && m.document

-- the last token was the name `Ontology`, which is no part of a literal
abbrev pub is_document_name : Latest → Bool
is_document_name DocumentName = true
is_document_name _ = false

-- after a name: one that stands after a string and carets is part of their literal
abbrev pub behind_name : List ℕ → Latest → Latest
behind_name text TypedString = Other
behind_name text _ = if bytes_eq text (codes "Ontology") then DocumentName else Other

-- what stands last after carets: a string that waits for its type, or anything else
abbrev pub behind_carets : Latest → Latest
behind_carets QuotedString = TypedString
behind_carets _ = Other

-- what the last tokens are after one more
abbrev pub latest_after : Kind → List ℕ → Latest → Latest
latest_after Name text before = behind_name text before
latest_after String text before = QuotedString
latest_after Carets text before = behind_carets before
latest_after _ text before = Other

-- A closing bracket where none is open leaves the depth at 0.
abbrev pub depth_after : Kind → ℕ → ℕ
depth_after OpenBracket d = d + 1
depth_after CloseBracket d = d - 1
depth_after _ d = d

-- whether the outermost open bracket is that of the document's group, after one more token
abbrev pub document_after : Kind → Met → Bool
document_after OpenBracket m = if nat_eq m.depth 0 then is_document_name m.latest else m.document
document_after _ m = m.document

-- what is known after one token more
abbrev pub met_after : Kind → List ℕ → Met → Met
met_after kind text m = record {
  depth = depth_after kind m.depth;
  document = document_after kind m;
  latest = latest_after kind text m.latest;
}

-- the tokens of a document, and the place after the last byte that was read
pub record DocumentTokens : Type 0 where
  pub tokens : List PlainToken
  pub place_behind : ℕ

-- the same tokens with one in front, or the same fault
abbrev pub with_token : PlainToken → Result DocumentTokens TextFault → Result DocumentTokens TextFault
with_token t (Ok r) = Ok (record { tokens = t ∷ r.tokens; place_behind = r.place_behind })
with_token t (Err fault) = Err fault

-- the pieces up to the document's last bracket, or all of a text that ends at a place; or the first fault before that
abbrev pub document_front : ℕ → Met → List Piece → Result DocumentTokens TextFault
document_front end m [] = Ok (record { tokens = []; place_behind = end })
document_front end m (faulty fault ∷ ps) = Err fault
document_front end m (whole t behind ∷ ps) =
    if is_last m t then Ok (record { tokens = t ∷ []; place_behind = behind })
    else with_token t (document_front end (met_after t.kind t.text m) ps)

-- the tokens of the document that a text begins with, or the fault that is met first
abbrev pub document : List ℕ → Result DocumentTokens TextFault
document text = document_front (length text) nothing_met (pieces text)

-- the tokens of the document that a text begins with, if it has no fault
abbrev pub reading : List ℕ → Option DocumentTokens
reading text = result_ok (document text)
