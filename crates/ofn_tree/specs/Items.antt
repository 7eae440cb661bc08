-- The items of a text as plain trees, and the marks of which they are made.
use Rattle.std.specs.Prelude.{◌≡◌, ℕ, zero, suc, ◌+◌, ◌≤◌, max, List, [], ◌∷◌, ◌++◌, Bool, true, false, ◌&&◌}
use Rattle.std.specs.Prelude.{if◌then◌else◌, Option, Some, None}
use Rattle.ofn_tree.specs.declared.token.Kind.{Kind}
use Rattle.ofn_tree.specs.declared.token.Kind.TheVariants.{OpenBracket, CloseBracket, Equals, Iri, String, Tag, Carets}
use Rattle.ofn_tree.specs.declared.token.Kind.TheVariants.{Name}
use Rattle.ofn_tree.specs.Token.{PlainToken, is_open, is_name, is_string, is_tag, is_carets, is_datatype}

-- Each item has its line, which is that of its first token.
mutual
  pub data Item : Type 0 where
    name_item : List ℕ → ℕ → Item
    iri_item : List ℕ → ℕ → Item
    literal_item : ℕ → Item
    sign_item : Kind → ℕ → Item
    group_item : Option (List ℕ) → Items → ℕ → Item

  pub data Items : Type 0 where
    no_items : Items
    item : Item → Items → Items

-- the items of a list, in order
abbrev pub items_of : List Item → Items
items_of [] = no_items
items_of (i ∷ is) = item i (items_of is)

-- what tokens stand for: a group opens with its name, if it has one, and closes; all else is an item
pub data Mark : Type 0 where
  opening : Option (List ℕ) → ℕ → Mark
  closing : Mark
  single : Item → Mark

-- what a token stands for that is no name of a group; a string, for the literal that it begins
abbrev pub mark_of : Kind → List ℕ → ℕ → Mark
mark_of OpenBracket text line = opening None line
mark_of CloseBracket text line = closing
mark_of Iri text line = single (iri_item text line)
mark_of String text line = single (literal_item line)
mark_of Name text line = single (name_item text line)
mark_of Equals text line = single (sign_item Equals line)
mark_of Tag text line = single (sign_item Tag line)
mark_of Carets text line = single (sign_item Carets line)

-- the first token is an opening bracket
abbrev pub begins_with_open : List PlainToken → Bool
begins_with_open [] = false
begins_with_open (t ∷ ts) = is_open t.kind

-- the first token may be the type of a literal
abbrev pub begins_with_datatype : List PlainToken → Bool
begins_with_datatype [] = false
begins_with_datatype (t ∷ ts) = is_datatype t.kind

-- A name directly followed by an opening bracket is the name of a group.
abbrev pub is_head : PlainToken → List PlainToken → Bool
is_head t ts = is_name t.kind && begins_with_open ts

-- carets and a name or IRI
abbrev pub begins_with_type : List PlainToken → Bool
begins_with_type [] = false
begins_with_type (t ∷ ts) = is_carets t.kind && begins_with_datatype ts

-- how many of the tokens after a string are part of its literal: a tag, or carets and a name or IRI
abbrev pub literal_rest : List PlainToken → ℕ
literal_rest [] = 0
literal_rest (t ∷ ts) = if is_tag t.kind then 1 else if begins_with_type (t ∷ ts) then 2 else 0

-- how many of the tokens after the first are part of its literal, where it is a string
abbrev pub rest_behind : List PlainToken → ℕ
rest_behind [] = 0
rest_behind (t ∷ ts) = if is_string t.kind then literal_rest ts else 0

-- how many tokens after a token have no mark of their own: the bracket after the name of a group, and the rest of a
-- literal after its string
abbrev pub unmarked : PlainToken → List PlainToken → ℕ
unmarked t ts = if is_head t ts then 1 else rest_behind (t ∷ ts)

-- the mark of a token, where it is the name of a group or not
abbrev pub mark_at : Bool → PlainToken → Mark
mark_at true t = opening (Some t.text) t.line
mark_at false t = mark_of t.kind t.text t.line

-- the marks of tokens of which the first k have none
abbrev pub marks_from : ℕ → List PlainToken → List Mark
marks_from k [] = []
marks_from (suc k) (t ∷ ts) = marks_from k ts
marks_from zero (t ∷ ts) = mark_at (is_head t ts) t ∷ marks_from (unmarked t ts) ts

-- the marks of tokens
abbrev pub marks : List PlainToken → List Mark
marks ts = marks_from 0 ts

-- the marks of which items are made
abbrev mutual
  pub written : Item → List Mark
  written (name_item text line) = single (name_item text line) ∷ []
  written (iri_item text line) = single (iri_item text line) ∷ []
  written (literal_item line) = single (literal_item line) ∷ []
  written (sign_item kind line) = single (sign_item kind line) ∷ []
  written (group_item head is line) = opening head line ∷ (written_all is ++ closing ∷ [])

  pub written_all : Items → List Mark
  written_all no_items = []
  written_all (item i is) = written i ++ written_all is

-- how many brackets are open at once
abbrev mutual
  pub nesting : Item → ℕ
  nesting (name_item text line) = 0
  nesting (iri_item text line) = 0
  nesting (literal_item line) = 0
  nesting (sign_item kind line) = 0
  nesting (group_item head is line) = nesting_all is + 1

  pub nesting_all : Items → ℕ
  nesting_all no_items = 0
  nesting_all (item i is) = max (nesting i) (nesting_all is)

-- the items that the tokens make, in order, with at most 64 brackets open at once
pub record IsTree (ts : List PlainToken) (is : List Item) : Type 0 where
  pub made : written_all (items_of is) ≡ marks ts
  pub nested : nesting_all (items_of is) ≤ 64
