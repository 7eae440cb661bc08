-- What follows for the taxonomy of an ontology.
use Rattle.std.specs.Prelude.{◌≡◌, length}
use Rattle.shq_terms.specs.Listed.{Listed}
use Rattle.classifier.specs.Subsumption.{IsSubsumption}
use Rattle.classifier.specs.Groups.{Parthood}
use Rattle.classification_jobs.specs.Taxonomies.{taxonomy_of}
use Rattle.classification_jobs.specs.TaxonomyText.{taxonomy_text}
use Rattle.classification_jobs.specs.declared.groups.Taxonomy.{Taxonomy}

-- the taxonomy of an ontology by a relation of its classes
abbrev pub taxonomy_by : Listed → Parthood → Taxonomy
taxonomy_by o r = taxonomy_of (length o.classes) r

-- whatever relation says which class is part of which, the taxonomy is the same
abbrev pub HaveOneTaxonomy : Type 0
HaveOneTaxonomy = (o : Listed) (r s : Parthood) → IsSubsumption o r → IsSubsumption o s
    → taxonomy_by o r ≡ taxonomy_by o s

-- and so is its text
abbrev pub HaveOneText : Type 0
HaveOneText = (o : Listed) (r s : Parthood) → IsSubsumption o r → IsSubsumption o s
    → taxonomy_text o (taxonomy_by o r) ≡ taxonomy_text o (taxonomy_by o s)
