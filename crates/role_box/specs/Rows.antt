-- Sets of roles as words, and rows of such sets, one for each role.
use Rattle.std.specs.Prelude.{◌≡◌, ℕ, ◌<◌, ◌||◌, Bool, List, [], slice_index_or}
use Rattle.std.specs.FinSet as set
use Rattle.lane_sieve.specs.Sets.{number_set}
use Rattle.role_box.specs.Paths.{has_path}

-- whether the set of the words has a role
abbrev pub has : List ℕ → ℕ → Bool
has words r = set.contains (number_set words) r

-- whether the row of r has s; after the last row there is none
unfoldable pub linked : List (List ℕ) → ℕ → ℕ → Bool
linked rows r s = has (slice_index_or rows r []) s

-- the links are those from before and those of which a test holds
abbrev pub HasGained : List (List ℕ) → List (List ℕ) → (ℕ → ℕ → Bool) → Type 0
HasGained before after more = (r s : ℕ) → linked after r s ≡ (linked before r s || more r s)

-- the links from the first roles are the paths of some steps, over inner roles below their count
abbrev pub HasPaths : List (List ℕ) → ℕ → (ℕ → ℕ → Bool) → Type 0
HasPaths rows count step = (r s : ℕ) → r < count → linked rows r s ≡ has_path step count r s
