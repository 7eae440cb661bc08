-- The text that is written of an audit.
use Rattle.std.specs.Prelude.{◌≡◌, ℕ, ◌+◌, ◌^◌, ◌<◌, Bool, ◌&&◌, List, [], ◌∷◌, ◌++◌, map, length, codes, decimal, Ok}
use Rattle.std.specs.List.{All, list_all, flat_map}
use Rattle.axiom_sets.specs.Sets.{Limited, IsWithin, member_list}
use Rattle.certificate_lines.specs.Lines.{lines}
use Rattle.certificate_lines.specs.Names.{AreNames}
use Rattle.certificate_lines.specs.Written.{fed, line_of}
use Rattle.shq_terms.specs.Listed.{Listed}
use Rattle.finite_model.specs.Written.{model_text, uses_listed_names}
use Rattle.finite_model.specs.ReadBack.{IsKept}
use Rattle.refutation_tree.specs.Written.{refutation_text, names_are_listed}
use Rattle.refutation_tree.specs.ReadBack.{IsWritable}
use Rattle.audit_file.specs.AuditLists.{AuditLists, IsOrdered}
use Rattle.audit_file.specs.AuditText.{audit_in}
use Rattle.audit_file.specs.Fitting.{AreOfAxioms}
use Rattle.audit_file.specs.declared.entries.Justification.{Justification}
use Rattle.audit_file.specs.declared.entries.Repair.{Repair}

-- `set K ..`
abbrev pub set_text : Limited → List ℕ
set_text s = fed (line_of (codes "set") (map decimal (member_list s)))

-- `KEYWORD N`
abbrev pub count_text : List ℕ → ℕ → List ℕ
count_text keyword n = fed (line_of keyword (decimal n ∷ []))

-- the set and the refutation, and the set and the model
abbrev pub justification_text : Listed → Justification → List ℕ
justification_text o j = set_text j.set ++ refutation_text o j.refutation

-- the lines of a repair: its set and its model
abbrev pub repair_text : Listed → Repair → List ℕ
repair_text o r = set_text r.set ++ model_text o r.model

-- the lines of the justifications, behind their number
abbrev pub justifications_text : Listed → List Justification → List ℕ
justifications_text o js = count_text (codes "justifications") (length js) ++ flat_map (justification_text o) js

-- the lines of the repairs, behind their number
abbrev pub repairs_text : Listed → List Repair → List ℕ
repairs_text o rs = count_text (codes "repairs") (length rs) ++ flat_map (repair_text o) rs

-- the line `audit`, the justifications, the repairs, and the line `end audit`
abbrev pub audit_text : Listed → AuditLists → List ℕ
audit_text o a =
    fed (codes "audit") ++ justifications_text o a.justifications ++ repairs_text o a.repairs ++ fed (codes "end audit")

-- the names that the refutations and the models use are listed
abbrev pub audit_is_listed : Listed → AuditLists → Bool
audit_is_listed o a =
    list_all (λ j. names_are_listed o j.refutation) a.justifications
    && list_all (λ r. uses_listed_names o r.model) a.repairs

-- a set of axioms of the document
pub record IsSetOf (o : Listed) (s : Limited) : Type 0 where
  pub limit : s.limit ≡ length o.axioms
  pub within : IsWithin s.limit s.members

-- an audit over the axioms of the document and over listed names, whose parts can be written
pub record IsWritableAudit (o : Listed) (a : AuditLists) : Type 0 where
  pub ordered : IsOrdered a.justifications a.repairs
  pub few_axioms : length o.axioms + 1 < 2 ^ 32
  pub few_justifications : length a.justifications < 2 ^ 32
  pub few_repairs : length a.repairs < 2 ^ 32
  pub justified : All (λ (j : Justification). IsSetOf o j.set) a.justifications
  pub refutations : All (λ (j : Justification). IsWritable o j.refutation) a.justifications
  pub repaired : All (λ (r : Repair). IsSetOf o r.set) a.repairs
  pub models : All (λ (r : Repair). IsKept o r.model) a.repairs

-- the lines of an audit's text stand for this audit
abbrev pub AuditsAreReadBack : Type 0
AuditsAreReadBack = (o : Listed) (a : AuditLists) → AreNames o.classes → AreNames o.roles → AreNames o.individuals
    → IsWritableAudit o a → audit_in o (lines (audit_text o a)) ≡ Ok a

-- An audit as it is kept, over listed names: its lists are in order, no set has a number above its limit, and each
-- model is one that its text is read back to.
pub record IsKeptAudit (o : Listed) (a : AuditLists) : Type 0 where
  pub ordered : IsOrdered a.justifications a.repairs
  pub justified : All (λ (j : Justification). IsWithin j.set.limit j.set.members) a.justifications
  pub repaired : All (λ (r : Repair). IsWithin r.set.limit r.set.members) a.repairs
  pub models : All (λ (r : Repair). IsKept o r.model) a.repairs

-- The text that was written of an audit, over sets of axioms of the document and with refutations that can be written,
-- is read as that audit, if it has fewer than 2 ^ 32 lines.
abbrev pub WhatIsWrittenIsRead : Type 0
WhatIsWrittenIsRead =
    (o : Listed) (a : AuditLists) → AreNames o.classes → AreNames o.roles → AreNames o.individuals
    → length o.axioms + 1 < 2 ^ 32 → AreOfAxioms o a
    → All (λ (j : Justification). IsWritable o j.refutation) a.justifications
    → IsKeptAudit o a → length (lines (audit_text o a)) < 2 ^ 32 → audit_in o (lines (audit_text o a)) ≡ Ok a
