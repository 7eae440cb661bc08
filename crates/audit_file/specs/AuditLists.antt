-- What an audit lists.
use Rattle.std.specs.Prelude.{◌-◌, Bool, true, List, [], ◌∷◌, ◌++◌, map, length, Option, Some, None, option_map}
use Rattle.std.specs.Prelude.{slice_get}
use Rattle.std.specs.Ordering.{is_lt}
use Rattle.axiom_sets.specs.Sets.{Limited, list_cmp}
use Rattle.pinpointing_specs.specs.Order.{IsAscending}
use Rattle.finite_model.specs.ModelLists.{ModelLists}
use Rattle.refutation_tree.specs.RefutationLists.{RefutationLists}
use Rattle.audit_file.specs.declared.entries.Justification.{Justification}
use Rattle.audit_file.specs.declared.entries.Repair.{Repair}

-- sets with refutations over them, and sets with interpretations
pub record AuditLists : Type 0 where
  pub justifications : List Justification
  pub repairs : List Repair

-- the sets of some justifications, in order
abbrev pub justified_sets : List Justification → List Limited
justified_sets js = map (λ j. j.set) js

-- the sets of some repairs, in order
abbrev pub repaired_sets : List Repair → List Limited
repaired_sets rs = map (λ r. r.set) rs

-- each list is in the order of sets, and no set stands in it twice
pub record IsOrdered (js : List Justification) (rs : List Repair) : Type 0 where
  pub justifications : IsAscending (justified_sets js)
  pub repairs : IsAscending (repaired_sets rs)

-- the set of the last justification, and of the last repair
abbrev pub last_justified : AuditLists → Option Limited
last_justified a = option_map (λ j. j.set) (slice_get a.justifications (length a.justifications - 1))

-- the set of the last repair, if there is one
abbrev pub last_repaired : AuditLists → Option Limited
last_repaired a = option_map (λ r. r.set) (slice_get a.repairs (length a.repairs - 1))

-- a set comes after the one before it, if there is one
abbrev pub follows : Option Limited → Limited → Bool
follows None s = true
follows (Some t) s = is_lt (list_cmp t s)

-- an audit that lists nothing
abbrev pub empty_audit : AuditLists
empty_audit = record { justifications = []; repairs = [] }

-- one more at the end
abbrev pub with_justification : Limited → RefutationLists → AuditLists → AuditLists
with_justification s r a = record a { justifications = a.justifications ++ record { set = s; refutation = r } ∷ [] }

-- the audit with one repair more, put last
abbrev pub with_repair : Limited → ModelLists → AuditLists → AuditLists
with_repair s m a = record a { repairs = a.repairs ++ record { set = s; model = m } ∷ [] }
