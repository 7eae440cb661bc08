-- The audit of what a search found.
use Rattle.std.specs.Prelude.{◌≡◌, ◌++◌, List, Contains}
use Rattle.axiom_sets.specs.Sets.{Limited, IsWithin}
use Rattle.pinpointing_specs.specs.Order.{IsAscending}
use Rattle.pinpointing_specs.specs.Smallest.{rest}
use Rattle.set_questions.specs.InOrder.{HaveOneLimit}
use Rattle.pinpointing_jobs.specs.TreeFound.{Found}
use Rattle.refutation_tree.specs.RefutationLists.{RefutationLists}
use Rattle.audit_check.specs.AuditLists.{AuditLists, justified_sets, repaired_sets, with_justification, with_repair}
use Rattle.audit_check.specs.Justification.{Justification}
use Rattle.audit_check.specs.Repair.{Repair}
use Rattle.pinpointing_jobs.specs.Written.{AreFoundRepairs}
use Rattle.audit_jobs.specs.declared.evidence.CounterModel.{CounterModel}
use Rattle.audit_jobs.specs.declared.evidence.Evidence.{Evidence}
use Rattle.audit_jobs.specs.Kept.{HasRefutation, HasModel}
use Rattle.audit_jobs.specs.Taken.{TakesOut}

-- the numbers up to the limit that are not in the set
abbrev pub outside : Limited → Limited
outside s = record { limit = s.limit; members = rest s }

-- each of the sets has a refutation
abbrev pub HaveRefutations : List RefutationLists → List Limited → Type 0
HaveRefutations rs sets = (j : Limited) → Contains sets j → HasRefutation rs j

-- each of the sets has a model of the axioms outside of it, and no member above its limit
abbrev pub HaveModels : List CounterModel → List Limited → Type 0
HaveModels ms sets = (r : Limited) → Contains sets r → HasModel ms (outside r) × IsWithin r.limit r.members

-- there is evidence for each justification that was found, and for each repair
pub record CanBeListed (f : Found) (e : Evidence) : Type 0 where
  pub limits : HaveOneLimit (f.justifications.items ++ f.leaves.items)
  pub order : IsAscending f.justifications.items
  pub refuted : HaveRefutations e.refutations.items f.justifications.items
  pub modelled : (repairs : List Limited) → AreFoundRepairs f repairs → HaveModels e.models.items repairs

-- ---- one more is listed

-- the set was put last with one of the refutations, which names just its axioms and was taken out
pub record PutsJustification (s : Limited) (old new : AuditLists) (rs left : List RefutationLists) : Type 0 where
  pub refutation : RefutationLists
  pub is_put : new ≡ with_justification s refutation old
  pub takes : TakesOut (λ (r : RefutationLists). r.axioms) s rs left refutation

-- the set was put last with one of the models, which is of the axioms outside of it and was taken out
pub record PutsRepair (s : Limited) (old new : AuditLists) (ms left : List CounterModel) : Type 0 where
  pub kept : CounterModel
  pub is_put : new ≡ with_repair s kept.model old
  pub takes : TakesOut (λ (m : CounterModel). m.set) (outside s) ms left kept

-- ---- all are listed

-- each justification has one of the refutations, and is the set of axioms that it names
abbrev pub AreFromRefutations : List RefutationLists → List Justification → Type 0
AreFromRefutations rs js = (j : Justification) → Contains js j
    → Contains rs j.refutation × (j.refutation.axioms ≡ j.set)

-- each repair has one of the models, and is what lies outside of the set that the model meets
abbrev pub AreFromModels : List CounterModel → List Repair → Type 0
AreFromModels ms repairs = (r : Repair) → Contains repairs r
    → Contains ms (record { set = outside r.set; model = r.model })

-- just these sets are listed, each with one of the refutations over it
pub record ListsJustifications (sets : List Limited) (rs : List RefutationLists) (js : List Justification) :
    Type 0 where
  pub sets_are : justified_sets js ≡ sets
  pub from_kept : AreFromRefutations rs js

-- just these sets are listed, each with one of the models of the axioms outside of it
pub record ListsRepairs (sets : List Limited) (ms : List CounterModel) (repairs : List Repair) : Type 0 where
  pub sets_are : repaired_sets repairs ≡ sets
  pub from_kept : AreFromModels ms repairs

-- the audit lists the justifications and repairs that a search found, each with what shows it
pub record IsAuditOf (f : Found) (e : Evidence) (a : AuditLists) : Type 0 where
  pub justifications : ListsJustifications f.justifications.items e.refutations.items a.justifications
  pub sets : List Limited
  pub are_found : AreFoundRepairs f sets
  pub repairs : ListsRepairs sets e.models.items a.repairs
