-- Worked lists of instances, and worked realizations.
use Rattle.std.specs.Prelude.{◌≡◌, ℕ, ◌==◌, Bool, true, List, [], ◌∷◌, ◌++◌, codes, slice_index_or, refl}
use Rattle.std.specs.List.{list_any}
use Rattle.std.specs.Fmt.{digits}
use Rattle.lane_sieve.specs.Sets.{passing}
use Rattle.shq_terms.specs.Listed.{Listed}
use Rattle.ofn_writer.specs.Canonical.{line}
use Rattle.subsumption.specs.Groups.{Parthood}
use Rattle.realizer.specs.Instances.{individuals_by, instances_text}
use Rattle.realizer.specs.Realization.{Typing, direct_types, types_by, realization_text}
use Rattle.realizer.specs.declared.types.Types.TheVariants.{Inconsistent}

-- the numbers that go with each number, in a list for each
abbrev by_rows : List (List ℕ) → ℕ → ℕ → Bool
by_rows rows x y = list_any (λ z. z == y) (slice_index_or rows x [])

-- an ontology with these classes and individuals
abbrev listing : List (List ℕ) → List (List ℕ) → Listed
listing classes individuals = record { axioms = []; classes = classes; roles = []; individuals = individuals }

-- ---- A lies in B; x is in A, y in B, and of z nothing is known

abbrev three : Listed
three = listing (codes "A" ∷ codes "B" ∷ []) (codes "x" ∷ codes "y" ∷ codes "z" ∷ [])

abbrev a_in_b : Parthood
a_in_b = by_rows ((0 ∷ 1 ∷ 2 ∷ []) ∷ (1 ∷ 2 ∷ []) ∷ (2 ∷ []) ∷ (0 ∷ 1 ∷ 2 ∷ 3 ∷ []) ∷ [])

abbrev three_typed : Typing
three_typed = by_rows ((0 ∷ 1 ∷ []) ∷ (1 ∷ []) ∷ [] ∷ [])

-- x is told to be in A alone, the lower of its two classes, and z in owl:Thing
pub three_have_types :
    realization_text three (types_by three a_in_b three_typed)
    ≡ line (codes "consistent")
    ++ (line (codes "individual <x> types <A>")
    ++ (line (codes "individual <y> types <B>")
    ++ (line (codes "individual <z> types owl:Thing")
    ++ [])))
unfolding passing direct_types
three_have_types = refl

-- x and y are in B, of which x is an instance since it is one of A
pub two_are_in_b :
    instances_text three (individuals_by three (λ a. three_typed a 1))
    ≡ line (codes "instances 2")
    ++ (line (codes "<x>")
    ++ (line (codes "<y>")
    ++ []))
unfolding passing digits
two_are_in_b = refl

-- ---- no individuals

pub none_are_in_a : instances_text (listing (codes "A" ∷ []) [])
    (individuals_by (listing (codes "A" ∷ []) []) (λ a. true))
    ≡ line (codes "instances 0")
unfolding passing digits
none_are_in_a = refl

pub no_individuals_have_types :
    realization_text (listing (codes "A" ∷ []) [])
    (types_by (listing (codes "A" ∷ []) []) (by_rows ((0 ∷ 1 ∷ []) ∷ (1 ∷ []) ∷ (0 ∷ 1 ∷ 2 ∷ []) ∷ [])) (λ a x. true))
    ≡ line (codes "consistent")
unfolding passing direct_types
no_individuals_have_types = refl

-- ---- nothing at all

pub no_element_is_inconsistent : types_by three (λ x y. true) three_typed ≡ Inconsistent
no_element_is_inconsistent = refl

pub inconsistent_has_a_text : realization_text three Inconsistent ≡ line (codes "inconsistent")
inconsistent_has_a_text = refl

-- ---- a diamond: D lies in B and in C, which lie in A; E is equal to C, and all things are in F

abbrev diamond : Parthood
diamond = by_rows (
    (0 ∷ 5 ∷ 6 ∷ [])
    ∷ (0 ∷ 1 ∷ 5 ∷ 6 ∷ [])
    ∷ (0 ∷ 2 ∷ 4 ∷ 5 ∷ 6 ∷ [])
    ∷ (0 ∷ 1 ∷ 2 ∷ 3 ∷ 4 ∷ 5 ∷ 6 ∷ [])
    ∷ (0 ∷ 2 ∷ 4 ∷ 5 ∷ 6 ∷ [])
    ∷ (5 ∷ 6 ∷ [])
    ∷ (5 ∷ 6 ∷ [])
    ∷ (0 ∷ 1 ∷ 2 ∷ 3 ∷ 4 ∷ 5 ∷ 6 ∷ 7 ∷ [])
    ∷ []
    )

abbrev types_in_diamond : List ℕ → List ℕ
types_in_diamond classes = direct_types 6 diamond (λ x. list_any (λ y. y == x) classes)

-- where an individual is in B and in C, both are direct; C and E are one group, which goes by C; A is above both, and F
-- is in no group
pub both_sides_are_direct : types_in_diamond (0 ∷ 1 ∷ 2 ∷ 4 ∷ 5 ∷ []) ≡ 1 ∷ 2 ∷ []
unfolding passing direct_types
both_sides_are_direct = refl

-- where it is in D too, D is the only one
pub lowest_is_direct : types_in_diamond (0 ∷ 1 ∷ 2 ∷ 3 ∷ 4 ∷ 5 ∷ []) ≡ 3 ∷ []
unfolding passing direct_types
lowest_is_direct = refl

-- where it is in F alone, there is none
pub all_things_are_no_type : types_in_diamond (5 ∷ []) ≡ []
unfolding passing direct_types
all_things_are_no_type = refl
