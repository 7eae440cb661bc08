use Rattle.std.proofs.Common.{◌≡◌, ◌++◌, drop, take, true}
use Rattle.std.specs.List.{All, flat_map, list_all}
use Rattle.axiom_sets.specs.Sets.{IsWithin}
use Rattle.finite_model.specs.ReadBack.{IsKept}
use Rattle.finite_model.specs.Written.{uses_listed_names}
use Rattle.audit_file.specs.Written.{repair_text}
use Rattle.audit_file.proofs.writing.push_each_repair.Given as goal

abbrev pub invariant-loop-repair : goal.invariant-loop-repair
invariant-loop-repair l = record {
  text : l.text.items ++ flat_map (repair_text l.ontology) (drop l.repair-index l.repairs)
      ≡ l.fn.text.items ++ flat_map (repair_text l.ontology) l.repairs;
  listed : list_all (λ r. uses_listed_names l.ontology r.model) (drop l.repair-index l.repairs) ≡ true;
  within : All (λ r. IsWithin r.set.limit r.set.members) (take l.repair-index l.repairs);
  kept : All (λ r. IsKept l.ontology r.model) (take l.repair-index l.repairs);
}
