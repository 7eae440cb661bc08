-- Lists by number.
use Rattle.std.specs.Prelude.{ℕ, List, [], ◌∷◌, Option, None, Some, slice_index_or}
use Rattle.step_finders.specs.declared.state.PlainRow.{PlainRow}
use Rattle.step_finders.specs.declared.state.NamedRow.{NamedRow}

-- the list under a number; there is none from some number on
abbrev pub list_at : {A : Type 0} → List (List A) → ℕ → List A
list_at lists k = slice_index_or lists k []

-- the value in a list of one, or no value
abbrev pub option_list : {A : Type 0} → Option A → List A
option_list None = []
option_list (Some x) = x ∷ []

-- by the number of a concept: what it carries, its complement, each 'at most' with it as filler, and the rows of its
-- name
pub record NumberLists : Type 0 where
  pub carries : List (List (ℕ × ℕ))
  pub complements : List (Option ℕ)
  pub mosts : List (List ℕ)
  pub named : List (List NamedRow)

-- the rows that wait for nothing, and those of edges by role
pub record EdgeLists : Type 0 where
  pub general : List PlainRow
  pub begins : List (List PlainRow)
  pub ends : List (List PlainRow)
