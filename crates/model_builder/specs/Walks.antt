-- Walks along edges: for each element the ends of its edges, the elements that were seen, and those that wait for their
-- edges to be followed.
use Rattle.std.specs.Prelude.{◌≡◌, ℕ, ◌+◌, ◌<◌, ◌≤◌, ◌==◌, ◌&&◌, ◌||◌, not, Bool, true, false, List, [], length}
use Rattle.std.specs.Prelude.{slice_index_or, sum_by}
use Rattle.std.specs.List.{list_any}
use Rattle.role_box.specs.Paths.{has_path}

-- whether y is an end of an edge from x
abbrev pub is_end : List (List ℕ) → ℕ → ℕ → Bool
is_end next x y = list_any (λ z. z == y) (slice_index_or next x [])

-- each edge ends at an element that is there
abbrev pub IsInside : List (List ℕ) → Type 0
IsInside next = (x y : ℕ) → is_end next x y ≡ true → y < length next

-- whether a chain of edges leads from x to y
abbrev pub reaches : List (List ℕ) → ℕ → ℕ → Bool
reaches next x y = has_path (is_end next) (length next) x y

-- the element was seen
abbrev pub is_seen : List Bool → ℕ → Bool
is_seen seen y = slice_index_or seen y false

-- whether y was seen from x, where that is the one from which was walked
abbrev pub is_seen_from : ℕ → List Bool → ℕ → ℕ → Bool
is_seen_from from seen x y = from == x && is_seen seen y

-- whether a chain leads from x to y, where x is that one
abbrev pub reaches_from : ℕ → List (List ℕ) → ℕ → ℕ → Bool
reaches_from from next x y = from == x && reaches next x y

-- the element waits to be looked at
abbrev pub is_waiting : List ℕ → ℕ → Bool
is_waiting waiting y = list_any (λ z. z == y) waiting

-- how many elements were not seen
abbrev pub left_of : Bool → ℕ
left_of true = 0
left_of false = 1

-- how many elements were not seen yet
abbrev pub unseen : List Bool → ℕ
unseen seen = sum_by left_of seen

-- these ends were seen, and those that had not been wait now
pub record HasVisited (old new : List Bool) (before after : List ℕ) (ends : ℕ → Bool) : Type 0 where
  pub long : length new ≡ length old
  pub seen_are : (y : ℕ) → is_seen new y ≡ (is_seen old y || ends y)
  pub waiting_are : (y : ℕ) → is_waiting after y ≡ (is_waiting before y || (not (is_seen old y) && ends y))
  pub as_many : unseen new + length after ≤ unseen old + length before

-- the ends are those from before and those of which a test holds
abbrev pub HasEnds : List (List ℕ) → List (List ℕ) → (ℕ → ℕ → Bool) → Type 0
HasEnds old new more = (x y : ℕ) → is_end new x y ≡ (is_end old x y || more x y)
