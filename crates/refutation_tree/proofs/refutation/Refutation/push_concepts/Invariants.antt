use Rattle.std.proofs.Common.{◌≡◌, ◌+◌, ◌++◌, drop, true}
use Rattle.std.specs.List.{list_all}
use Rattle.certificate_lines.specs.Written.{text_of}
use Rattle.refutation_tree.specs.Written.{concept_lines, shape_is_listed}
use Rattle.refutation_tree.proofs.refutation.Refutation.push_concepts.Given as goal

abbrev pub invariant-loop-index : goal.invariant-loop-index
invariant-loop-index l = record {
  text : l.text.items ++ text_of (concept_lines l.ontology (l.index + 1) (drop l.index l.self.shapes))
      ≡ l.fn.text.items ++ text_of (concept_lines l.ontology 1 l.self.shapes);
  listed : list_all (shape_is_listed l.ontology) (drop l.index l.self.shapes) ≡ true;
}
