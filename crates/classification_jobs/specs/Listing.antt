-- Whether the classes of a taxonomy are listed: their numbers are below a count.
use Rattle.std.specs.Prelude.{ℕ, true, Bool, ◌&&◌}
use Rattle.std.specs.List.{list_all}
use Rattle.classifier.specs.ClassNames.{are_listed}
use Rattle.classification_jobs.specs.TaxonomyLists.{GroupLists, HierarchyLists}
use Rattle.classification_jobs.specs.declared.groups.Taxonomy.{Taxonomy}
use Rattle.classification_jobs.specs.declared.groups.Taxonomy.TheVariants.{Inconsistent, Consistent}

-- the classes of a group and its parents have numbers below the count
abbrev pub group_is_listed : ℕ → GroupLists → Bool
group_is_listed count g = are_listed count g.classes && are_listed count g.parents

-- all classes of a hierarchy have numbers below the count
abbrev pub hierarchy_is_listed : ℕ → HierarchyLists → Bool
hierarchy_is_listed count h =
    are_listed count h.nothing && (are_listed count h.thing && list_all (group_is_listed count) h.groups)

-- all classes of a taxonomy have numbers below the count
abbrev pub is_listed : ℕ → Taxonomy → Bool
is_listed count Inconsistent = true
is_listed count (Consistent h) = hierarchy_is_listed count h
