-- Worked taxonomies.
use Rattle.std.specs.Prelude.{◌≡◌, ℕ, ◌==◌, List, [], ◌∷◌, ◌++◌, codes, slice_index_or, refl}
use Rattle.std.specs.List.{list_any}
use Rattle.lane_sieve.specs.Sets.{passing}
use Rattle.shq_terms.specs.Listed.{Listed}
use Rattle.ofn_writer.specs.Canonical.{line}
use Rattle.classification_jobs.specs.TaxonomyLists.{GroupLists}
use Rattle.classifier.specs.Groups.{Parthood}
use Rattle.classification_jobs.specs.Taxonomies.{group_of, hierarchy_of, taxonomy_of}
use Rattle.classification_jobs.specs.TaxonomyText.{taxonomy_text}
use Rattle.classification_jobs.specs.declared.groups.Taxonomy.TheVariants.{Consistent}

-- the numbers that hold each number, in a list for each
abbrev by_rows : List (List ℕ) → Parthood
by_rows rows x y = list_any (λ z. z == y) (slice_index_or rows x [])

-- an ontology with these classes
abbrev listing : List (List ℕ) → Listed
listing classes = record { axioms = []; classes = classes; roles = []; individuals = [] }

-- ---- A and B are equal, C lies in A and in D, D in A, E in nothing, and all things in F

abbrev sorts : Parthood
sorts = by_rows (
    (0 ∷ 1 ∷ 5 ∷ 6 ∷ [])
    ∷ (0 ∷ 1 ∷ 5 ∷ 6 ∷ [])
    ∷ (0 ∷ 1 ∷ 2 ∷ 3 ∷ 5 ∷ 6 ∷ [])
    ∷ (0 ∷ 1 ∷ 3 ∷ 5 ∷ 6 ∷ [])
    ∷ (0 ∷ 1 ∷ 2 ∷ 3 ∷ 4 ∷ 5 ∷ 6 ∷ 7 ∷ [])
    ∷ (5 ∷ 6 ∷ [])
    ∷ (5 ∷ 6 ∷ [])
    ∷ (0 ∷ 1 ∷ 2 ∷ 3 ∷ 4 ∷ 5 ∷ 6 ∷ 7 ∷ [])
    ∷ []
    )

abbrev six : Listed
six = listing (codes "A" ∷ codes "B" ∷ codes "C" ∷ codes "D" ∷ codes "E" ∷ codes "F" ∷ [])

-- C is under D alone, since D is under A; A and B stand together, and A alone where they are a parent
pub sorts_have_a_text :
    taxonomy_text six (taxonomy_of 6 sorts)
    ≡ line (codes "consistent")
    ++ (line (codes "nothing <E>")
    ++ (line (codes "thing <F>")
    ++ (line (codes "class <A> <B> under owl:Thing")
    ++ (line (codes "class <C> under <D>")
    ++ (line (codes "class <D> under <A>")
    ++ [])))))
unfolding passing group_of hierarchy_of
sorts_have_a_text = refl

-- ---- a diamond: D lies in B and in C, which lie in A

abbrev diamond : Parthood
diamond = by_rows (
    (0 ∷ 4 ∷ [])
    ∷ (0 ∷ 1 ∷ 4 ∷ [])
    ∷ (0 ∷ 2 ∷ 4 ∷ [])
    ∷ (0 ∷ 1 ∷ 2 ∷ 3 ∷ 4 ∷ [])
    ∷ (4 ∷ [])
    ∷ (0 ∷ 1 ∷ 2 ∷ 3 ∷ 4 ∷ 5 ∷ [])
    ∷ []
    )

-- D has two parents, and A, above both, is none
abbrev diamond_groups : List GroupLists
diamond_groups =
    record { classes = 0 ∷ []; parents = [] }
    ∷ record { classes = 1 ∷ []; parents = 0 ∷ [] }
    ∷ record { classes = 2 ∷ []; parents = 0 ∷ [] }
    ∷ record { classes = 3 ∷ []; parents = 1 ∷ 2 ∷ [] }
    ∷ []

pub diamond_has_two_sides : taxonomy_of 4 diamond
    ≡ Consistent (record { nothing = []; thing = []; groups = diamond_groups })
unfolding passing group_of hierarchy_of
diamond_has_two_sides = refl

-- ---- equal parents: A lies in C, which is equal to B

abbrev equal_parents : Parthood
equal_parents = by_rows (
    (0 ∷ 1 ∷ 2 ∷ 3 ∷ [])
    ∷ (1 ∷ 2 ∷ 3 ∷ [])
    ∷ (1 ∷ 2 ∷ 3 ∷ [])
    ∷ (3 ∷ [])
    ∷ (0 ∷ 1 ∷ 2 ∷ 3 ∷ 4 ∷ [])
    ∷ []
    )

abbrev two_groups : List GroupLists
two_groups = record { classes = 0 ∷ []; parents = 1 ∷ [] } ∷ record { classes = 1 ∷ 2 ∷ []; parents = [] } ∷ []

-- B and C are no edges to each other, and one parent together
pub equal_parents_are_one : taxonomy_of 3 equal_parents
    ≡ Consistent (record { nothing = []; thing = []; groups = two_groups })
unfolding passing group_of hierarchy_of
equal_parents_are_one = refl

-- ---- no class has an element

abbrev all_empty : Parthood
all_empty = by_rows (
    (0 ∷ 1 ∷ 2 ∷ 3 ∷ [])
    ∷ (0 ∷ 1 ∷ 2 ∷ 3 ∷ [])
    ∷ (2 ∷ [])
    ∷ (0 ∷ 1 ∷ 2 ∷ 3 ∷ [])
    ∷ []
    )

-- there are no groups then
pub all_are_empty : taxonomy_of 2 all_empty ≡ Consistent (record { nothing = 0 ∷ 1 ∷ []; thing = []; groups = [] })
unfolding passing group_of hierarchy_of
all_are_empty = refl

-- ---- B has every element, and A lies in it

abbrev full : Parthood
full = by_rows (
    (0 ∷ 1 ∷ 2 ∷ [])
    ∷ (1 ∷ 2 ∷ [])
    ∷ (1 ∷ 2 ∷ [])
    ∷ (0 ∷ 1 ∷ 2 ∷ 3 ∷ [])
    ∷ []
    )

-- a class that is equal to owl:Thing is no parent
pub full_is_no_parent : taxonomy_of 2 full
    ≡ Consistent (record { nothing = []; thing = 1 ∷ []; groups = record { classes = 0 ∷ []; parents = [] } ∷ [] })
unfolding passing group_of hierarchy_of
full_is_no_parent = refl

-- ---- no classes, and nothing at all

pub no_classes_have_a_text :
    taxonomy_text (listing []) (taxonomy_of 0 (by_rows ((0 ∷ []) ∷ (0 ∷ 1 ∷ []) ∷ [])))
    ≡ line (codes "consistent") ++ (line (codes "nothing") ++ (line (codes "thing") ++ []))
unfolding passing group_of hierarchy_of
no_classes_have_a_text = refl

pub no_element_is_inconsistent : taxonomy_text (listing (codes "A" ∷ [])) (taxonomy_of 1 (λ x y. 0 == 0))
    ≡ line (codes "inconsistent")
no_element_is_inconsistent = refl
