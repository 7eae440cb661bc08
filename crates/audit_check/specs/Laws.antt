-- What a sound audit is good for.
use Rattle.std.specs.Prelude.{◌≡◌}
use Rattle.std.specs.List.{All}
use Rattle.axiom_sets.specs.Sets.{IsWithin}
use Rattle.shq_terms.specs.Listed.{Listed}
use Rattle.shq_terms.specs.declared.axioms.Query.{Query}
use Rattle.audit_file.specs.AuditLists.{AuditLists, justified_sets, IsOrdered}
use Rattle.audit_file.specs.Fitting.{AreOfAxioms}
use Rattle.audit_check.specs.Sound.{IsSound, ListsAll}
use Rattle.audit_check.specs.Verdicts.{IsVerdict}
use Rattle.audit_check.specs.declared.verdict.AuditVerdict.{AuditVerdict}

-- the lists of a sound audit over sets of axioms are exactly all justifications and all repairs
abbrev pub SoundAuditsListAll : Type 0
SoundAuditsListAll = (o : Listed) (q : Query) (a : AuditLists) → AreOfAxioms o a
    → All (λ s. IsWithin s.limit s.members) (justified_sets a.justifications) → IsSound o q a → ListsAll o q a

-- an audit whose lists are in order has one verdict; a sound one is accepted, since that is a verdict on it
abbrev pub VerdictsAreUnique : Type 0
VerdictsAreUnique = (o : Listed) (q : Query) (a : AuditLists) (v w : AuditVerdict)
    → IsOrdered a.justifications a.repairs → IsVerdict o q a v → IsVerdict o q a w → v ≡ w
