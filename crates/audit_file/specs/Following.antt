-- How many sets can still follow in the order of sets.
use Rattle.std.specs.Prelude.{ℕ, ◌+◌, ◌-◌, ◌^◌, List, [], ◌∷◌, Option, Some, None}
use Rattle.axiom_sets.specs.Sets.{Limited, member_list}

-- how many sets of numbers above k and up to n there are, the empty one apart
abbrev pub sets_above : ℕ → ℕ → ℕ
sets_above n k = 2 ^ (n - k) - 1

-- how many ascending lists of numbers above k and up to n come after this one: those that have a greater number in the
-- place of one of its members, and those that go on where it ends
abbrev pub lists_after : ℕ → ℕ → List ℕ → ℕ
lists_after n k [] = sets_above n k
lists_after n k (a ∷ xs) = lists_after n a xs + sets_above n a

-- how many sets of numbers from 1 to n come after the one before, or are there in all
abbrev pub can_follow : ℕ → Option Limited → ℕ
can_follow n None = 2 ^ n
can_follow n (Some s) = lists_after n 0 (member_list s)
