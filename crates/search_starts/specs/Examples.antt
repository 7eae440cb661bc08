-- Worked normal trees.
use Rattle.std.specs.Prelude.{◌≡◌, true, false, [], ◌∷◌, refl}
use Rattle.role_box.specs.Concept.{top, name, complement, intersection, union, some_of, at_least, at_most, exactly}
use Rattle.role_box.specs.Concept.{parts_of}
use Rattle.search_starts.specs.Normal.{is_normal_tree}

pub union_is_normal : is_normal_tree (union (parts_of (name 10 ∷ complement (name 11) ∷ []))) ≡ true
union_is_normal = refl

-- a complement of anything but a name
pub complement_is_pushed_in : is_normal_tree (complement (some_of 7 (name 10))) ≡ false
complement_is_pushed_in = refl

-- a lone part, a part that is a union too, and one that says nothing
pub lone_part_is_none : is_normal_tree (union (parts_of (name 10 ∷ []))) ≡ false
lone_part_is_none = refl

pub unions_are_merged : is_normal_tree
    (union (parts_of (name 10 ∷ union (parts_of (name 11 ∷ name 12 ∷ [])) ∷ []))) ≡ false
unions_are_merged = refl

pub top_is_left_out : is_normal_tree (intersection (parts_of (name 10 ∷ top ∷ []))) ≡ false
top_is_left_out = refl

-- 'at least 1' is 'some', 'at most 0' is 'all', and 'exactly' is two of these
pub least_is_some : is_normal_tree (at_least 1 7 (name 10)) ≡ false
least_is_some = refl

pub most_is_all : is_normal_tree (at_most 0 7 (name 10)) ≡ false
most_is_all = refl

pub most_is_normal : is_normal_tree (at_most 1 7 (name 10)) ≡ true
most_is_normal = refl

pub exactly_is_two : is_normal_tree (exactly 2 7 (name 10)) ≡ false
exactly_is_two = refl
