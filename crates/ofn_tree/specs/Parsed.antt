-- What stands from one place of a list of tokens to another.
use Rattle.std.specs.Prelude.{◌≡◌, ℕ, ◌+◌, ◌≤◌, List, [], ◌∷◌, ◌++◌, drop, Bool, false, Option}
use Rattle.ofn_tree.specs.declared.token.Token.{Token}
use Rattle.ofn_tree.specs.Token.{PlainToken, tokens_from, is_close}
use Rattle.ofn_tree.specs.Items.{Item, items_of, written, written_all, nesting, nesting_all, opening, marks, is_head}
use Rattle.ofn_tree.specs.Faults.{bracket_fault}

-- the first token is a closing bracket
abbrev pub begins_with_close : List PlainToken → Bool
begins_with_close [] = false
begins_with_close (t ∷ ts) = is_close t.kind

-- the first token is the name of a group
abbrev pub begins_with_head : List PlainToken → Bool
begins_with_head [] = false
begins_with_head (t ∷ ts) = is_head t ts

-- With so many brackets open before them, the tokens make these items, and then the rest stands; no fault is met on
-- the way.
pub record IsItems (end depth : ℕ) (ts rest : List PlainToken) (is : List Item) : Type 0 where
  pub made : written_all (items_of is) ++ marks rest ≡ marks ts
  pub nested : nesting_all (items_of is) + depth ≤ 64
  pub same_fault : bracket_fault end depth ts ≡ bracket_fault end depth rest

-- The same for a group with this name and line, where the tokens begin with its opening bracket.
pub record IsGroup (end depth : ℕ) (head : Option (List ℕ)) (line : ℕ) (ts rest : List PlainToken) (i : Item) :
    Type 0 where
  pub made : written i ++ marks rest ≡ opening head line ∷ marks (drop 1 ts)
  pub nested : nesting i + depth ≤ 64
  pub same_fault : bracket_fault end depth ts ≡ bracket_fault end depth rest

-- With so many brackets open before them, the tokens from one place up to another make these items.
abbrev pub ReadsItems : ℕ → ℕ → List Token → ℕ → ℕ → List Item → Type 0
ReadsItems end depth tokens start behind is =
    IsItems end depth (tokens_from tokens start) (tokens_from tokens behind) is

-- The same for a group with this name and line, whose opening bracket stands at the first place.
abbrev pub ReadsGroup : ℕ → ℕ → Option (List ℕ) → ℕ → List Token → ℕ → ℕ → Item → Type 0
ReadsGroup end depth head line tokens start behind i =
    IsGroup end depth head line (tokens_from tokens start) (tokens_from tokens behind) i
