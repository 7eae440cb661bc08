use Rattle.std.proofs.Common.{◌≡◌, ◌++◌, drop, length, true}
use Rattle.std.specs.List.{list_all}
use Rattle.classification_jobs.specs.TaxonomyText.{group_lines}
use Rattle.classification_jobs.specs.Listing.{group_is_listed}
use Rattle.classification_jobs.proofs.taxonomy_text.put_groups.Given as goal

abbrev pub invariant-loop-group : goal.invariant-loop-group
invariant-loop-group l = record {
  put : l.out.items ++ group_lines l.ontology (drop l.group-index l.groups)
      ≡ l.fn.out.items ++ group_lines l.ontology l.groups;
  listed : list_all (group_is_listed (length l.ontology.classes)) (drop l.group-index l.groups) ≡ true;
}
