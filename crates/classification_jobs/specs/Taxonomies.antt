-- The taxonomy of a relation `is part of` on some listed classes, owl:Thing and owl:Nothing. The classes have the
-- numbers below their count, owl:Thing has the count as its number, and owl:Nothing the next one.
use Rattle.std.specs.Prelude.{ℕ, ◌+◌, ◌==◌, Bool, List, not, ◌&&◌, map, if◌then◌else◌}
use Rattle.lane_sieve.specs.Sets.{passing}
use Rattle.classifier.specs.Groups.{Parthood, is_empty, holds_all, is_equal, is_first, holds_no_other, is_lowest}
use Rattle.classification_jobs.specs.TaxonomyLists.{GroupLists, HierarchyLists}
use Rattle.classification_jobs.specs.declared.groups.Taxonomy.{Taxonomy}
use Rattle.classification_jobs.specs.declared.groups.Taxonomy.TheVariants.{Inconsistent, Consistent}

-- p is the first class of another group than that of x, and holds x
abbrev pub is_above : ℕ → Parthood → ℕ → ℕ → Bool
is_above count r x p = is_first count r p && (not (p == x) && r x p)

-- no third group that holds x lies in that of p
abbrev pub is_next : ℕ → Parthood → ℕ → ℕ → Bool
is_next count r x p = holds_no_other count r (is_above count r x) p

-- the group of p is directly above that of x
abbrev pub is_parent : ℕ → Parthood → ℕ → ℕ → Bool
is_parent count r x p = is_lowest count r (is_above count r x) p

-- ---- the whole

-- the group whose first class is x
unfoldable pub group_of : ℕ → Parthood → ℕ → GroupLists
group_of count r x =
    record { classes = passing (is_equal count r x) 0 count; parents = passing (is_parent count r x) 0 count }

-- a group for each class that is the first of its group
abbrev pub groups_of : ℕ → Parthood → List GroupLists
groups_of count r = map (group_of count r) (passing (is_first count r) 0 count)

-- the hierarchy of a relation: the empty classes, those that hold everything, and the groups of equal ones
unfoldable pub hierarchy_of : ℕ → Parthood → HierarchyLists
hierarchy_of count r = record {
  nothing = passing (is_empty count r) 0 count;
  thing = passing (holds_all count r) 0 count;
  groups = groups_of count r;
}

-- the taxonomy: inconsistent where owl:Thing is part of owl:Nothing, and else the hierarchy
abbrev pub taxonomy_of : ℕ → Parthood → Taxonomy
taxonomy_of count r = if r count (count + 1) then Inconsistent else Consistent (hierarchy_of count r)
