use Rattle.std.proofs.Common.{◌≡◌, ◌++◌, drop, take, true}
use Rattle.std.specs.List.{All, flat_map, list_all}
use Rattle.axiom_sets.specs.Sets.{IsWithin}
use Rattle.refutation_tree.specs.Written.{names_are_listed}
use Rattle.audit_file.specs.Written.{justification_text}
use Rattle.audit_file.proofs.writing.push_each_justification.Given as goal

abbrev pub invariant-loop-justification : goal.invariant-loop-justification
invariant-loop-justification l = record {
  text : l.text.items ++ flat_map (justification_text l.ontology) (drop l.justification-index l.justifications)
      ≡ l.fn.text.items ++ flat_map (justification_text l.ontology) l.justifications;
  listed : list_all (λ j. names_are_listed l.ontology j.refutation) (drop l.justification-index l.justifications)
      ≡ true;
  within : All (λ j. IsWithin j.set.limit j.set.members) (take l.justification-index l.justifications);
}
