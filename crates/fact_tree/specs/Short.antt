-- Lists whose lengths take 32 bits, and prints of lists.
use Rattle.std.specs.Prelude.{◌≡◌, ℕ, ◌<◌, ◌^◌, ◌%◌, ◌==◌, true, false, List, length, take, get_or}
use Rattle.std.specs.List.{list_any}
use Rattle.std.specs.FinSet as set
use Rattle.lane_sieve.specs.Sets.{number_set}

-- the lengths of the four lists take 32 bits
pub record AreShort (members concepts : List ℕ) (edges : List (ℕ × ℕ)) (aparts : List ℕ) : Type 0 where
  pub members_short : length members < 2 ^ 32
  pub concepts_short : length concepts < 2 ^ 32
  pub edges_short : length edges < 2 ^ 32
  pub aparts_short : length aparts < 2 ^ 32

-- each number of the list has its bit, of 256, among the bits
pub record ArePrinted (cs bits : List ℕ) : Type 0 where
  pub each : (c : ℕ) → list_any (λ d. d == c) cs ≡ true → set.contains (number_set bits) (c % 256) ≡ true

-- each number has its bit where it is in the list, and no other has one
pub record HaveBits (cs bits : List ℕ) : Type 0 where
  pub each : (c : ℕ) → set.contains (number_set bits) c ≡ list_any (λ d. d == c) cs

-- so it is where there are words
pub record AreIndexed (cs bits : List ℕ) : Type 0 where
  pub have : 0 < length bits → HaveBits cs bits

-- no number stands before itself
pub record EachIsNew (cs : List ℕ) : Type 0 where
  pub each : (i : ℕ) → i < length cs → list_any (λ d. d == get_or cs i 0) (take i cs) ≡ false
