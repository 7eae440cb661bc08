-- Sets of bits as lists of words: the plain definitions that the kernels compute.
use Rattle.std.specs.Prelude.{ℕ, ◌+◌, ◌==◌, ◌&&◌, not, Bool, true, List, [], ◌∷◌, bit_and, if◌then◌else◌}

-- whether a test holds of the two numbers at each place that both lists have
abbrev pub each_pair : (ℕ → ℕ → Bool) → List ℕ → List ℕ → Bool
each_pair test [] ys = true
each_pair test (x ∷ xs) [] = true
each_pair test (x ∷ xs) (y ∷ ys) = test x y && each_pair test xs ys

-- whether each bit of x is a bit of y
abbrev pub is_part : ℕ → ℕ → Bool
is_part x y = bit_and x y == x

-- whether there is no number in a list of which x is a part
abbrev pub is_part_of_none : ℕ → List ℕ → Bool
is_part_of_none x [] = true
is_part_of_none x (y ∷ ys) = not (is_part x y) && is_part_of_none x ys

-- whether x and y have no bit in common
abbrev pub is_apart : ℕ → ℕ → Bool
is_apart x y = bit_and x y == 0

-- whether each bit of the words xs is a bit of the words ys
abbrev pub is_subset : List ℕ → List ℕ → Bool
is_subset xs ys = each_pair is_part xs ys

-- whether the words xs and ys have a bit in common
abbrev pub do_meet : List ℕ → List ℕ → Bool
do_meet xs ys = not (each_pair is_apart xs ys)

-- the places of the prints that contain each bit of `print`, in order, where the first print stands at `place`
abbrev pub places : ℕ → List ℕ → List (List ℕ) → List ℕ
places place print [] = []
places place print (p ∷ ps) =
    if is_subset print p then place ∷ places (place + 1) print ps else places (place + 1) print ps
