-- The verdict on an audit: at which place it fails first.
use Rattle.std.specs.Prelude.{◌≡◌, ℕ, ◌+◌, ◌<◌, List, length, Some, slice_get}
use Rattle.certificate_lines.specs.Malformed.{clamped_line}
use Rattle.audit_check.specs.Listed.{ContainsAnother}
use Rattle.audit_check.specs.Transversals.{AreTransversals}
use Rattle.shq_terms.specs.Listed.{Listed}
use Rattle.shq_terms.specs.declared.axioms.Numbered.{Numbered}
use Rattle.shq_terms.specs.declared.axioms.Query.{Query}
use Rattle.audit_file.specs.AuditLists.{AuditLists, justified_sets, repaired_sets}
use Rattle.audit_file.specs.declared.entries.Justification.{Justification}
use Rattle.audit_file.specs.declared.entries.Repair.{Repair}
use Rattle.audit_check.specs.Sound.{IsShown, IsCounterModel, IsSound}
use Rattle.audit_check.specs.declared.verdict.AuditVerdict.{AuditVerdict}
use Rattle.audit_check.specs.declared.verdict.AuditVerdict.TheVariants as verdict

-- the justification of a place contains no other one, and its refutation is valid over its set
pub record JustificationHolds (o : Listed) (q : Query) (js : List Justification) (place : ℕ) : Type 0 where
  pub contains_none : ¬ ContainsAnother (justified_sets js) place
  pub shown : (j : Justification) → slice_get js place ≡ Some j → IsShown o q j

-- the model of the repair of a place shows that the query does not follow without it
abbrev pub RepairHolds : List Numbered → Query → List Repair → ℕ → Type 0
RepairHolds axioms q rs place = (r : Repair) → slice_get rs place ≡ Some r → IsCounterModel axioms q r

-- each of the first justifications holds
abbrev pub JustificationsHold : Listed → Query → List Justification → ℕ → Type 0
JustificationsHold o q js count = (place : ℕ) → place < count → JustificationHolds o q js place

-- each of the first repairs holds
abbrev pub RepairsHold : List Numbered → Query → List Repair → ℕ → Type 0
RepairsHold axioms q rs count = (place : ℕ) → place < count → RepairHolds axioms q rs place

-- of all places below a count this is the first at which something does not hold
pub record FailsFirst (holds : ℕ → Type 0) (count place : ℕ) : Type 0 where
  pub within : place < count
  pub before : (k : ℕ) → k < place → holds k
  pub fails : ¬ holds place

-- the number of that place, from 1, as it is told
abbrev pub IsFirstFailing : (ℕ → Type 0) → ℕ → ℕ → Type 0
IsFirstFailing holds count n = (place : ℕ) × (n ≡ clamped_line (place + 1)) × FailsFirst holds count place

-- The audit is sound; or its first justification fails that does; or none does, and its first repair that does; or none
-- does either, and the repairs are not the smallest sets that meet each justification.
abbrev pub IsVerdict : Listed → Query → AuditLists → AuditVerdict → Type 0
IsVerdict o q a verdict.Accepted = IsSound o q a
IsVerdict o q a (verdict.Justification n) =
    IsFirstFailing (JustificationHolds o q a.justifications) (length a.justifications) n
IsVerdict o q a (verdict.Repair n) = JustificationsHold o q a.justifications (length a.justifications)
    × IsFirstFailing (RepairHolds o.axioms q a.repairs) (length a.repairs) n
IsVerdict o q a verdict.Transversal =
    JustificationsHold o q a.justifications (length a.justifications)
    × RepairsHold o.axioms q a.repairs (length a.repairs)
    × (¬ AreTransversals (length o.axioms) (justified_sets a.justifications) (repaired_sets a.repairs))
