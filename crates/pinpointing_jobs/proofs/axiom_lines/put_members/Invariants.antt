use Rattle.std.proofs.Common.{◌≡◌, ◌+◌, ◌++◌, drop, length, true}
use Rattle.std.specs.FinSet as sets_of
use Rattle.shq_terms.specs.Uses.{all_use_listed}
use Rattle.pinpointing_jobs.specs.SetLists.{axiom_lines}
use Rattle.pinpointing_jobs.proofs.axiom_lines.put_members.Given as goal

abbrev pub invariant-loop-numbered : goal.invariant-loop-numbered
invariant-loop-numbered l = record {
  number : l.number ≡ l.numbered-index;
  put : l.out.items
      ++ axiom_lines l.ontology (sets_of.contains l.set.members) (l.number + 1)
      (drop l.numbered-index l.ontology.axioms)
      ≡ l.fn.out.items ++ axiom_lines l.ontology (sets_of.contains l.set.members) 1 l.ontology.axioms;
  listed : all_use_listed (length l.ontology.classes) (length l.ontology.roles) (length l.ontology.individuals)
      (drop l.numbered-index l.ontology.axioms)
      ≡ true;
}
