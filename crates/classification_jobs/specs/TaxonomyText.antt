-- The text of a taxonomy.
use Rattle.std.specs.Prelude.{ℕ, List, [], ◌∷◌, ◌++◌, codes}
use Rattle.shq_terms.specs.Listed.{Listed}
use Rattle.ofn_writer.specs.Canonical.{line}
use Rattle.classifier.specs.ClassNames.{names_text, names_or_thing_text}
use Rattle.classification_jobs.specs.TaxonomyLists.{GroupLists, HierarchyLists}
use Rattle.classification_jobs.specs.declared.groups.Taxonomy.{Taxonomy}
use Rattle.classification_jobs.specs.declared.groups.Taxonomy.TheVariants.{Inconsistent, Consistent}

-- the line of a group: its classes, and the groups directly above it or owl:Thing
abbrev pub group_line : Listed → GroupLists → List ℕ
group_line o g = line (codes "class" ++ (names_text o g.classes ++ (codes " under" ++ names_or_thing_text o g.parents)))

-- a line for each group, in order
abbrev pub group_lines : Listed → List GroupLists → List ℕ
group_lines o [] = []
group_lines o (g ∷ gs) = group_line o g ++ group_lines o gs

-- the text of a hierarchy: the empty classes, those that hold everything, and a line for each group
abbrev pub hierarchy_text : Listed → HierarchyLists → List ℕ
hierarchy_text o h =
    line (codes "consistent")
    ++ (line (codes "nothing" ++ names_text o h.nothing)
    ++ (line (codes "thing" ++ names_text o h.thing)
    ++ group_lines o h.groups))

-- the text of a taxonomy
abbrev pub taxonomy_text : Listed → Taxonomy → List ℕ
taxonomy_text o Inconsistent = line (codes "inconsistent")
taxonomy_text o (Consistent h) = hierarchy_text o h
