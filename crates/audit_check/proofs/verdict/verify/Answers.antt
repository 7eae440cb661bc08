use Rattle.std.proofs.Common.{ℕ, List, Option, length, subst}
use Rattle.std.specs.Prelude.{MatchOption}
use Rattle.audit_file.specs.declared.entries.Justification.{Justification}
use Rattle.audit_check.specs.Verdicts.{JustificationsHold, JustificationHolds, FailsFirst}
use Rattle.audit_check.proofs.verdict.verify.Goals as goal

pub verify_repairs-requires-clause-hold : goal.verify_repairs-requires-clause-hold
verify_repairs-requires-clause-hold c =
    let o = c.args.ontology.now in
    let q = c.args.query.now in
    let js = c.justifications-2.result.now in
    let none =
    subst (λ (p : Option ℕ). MatchOption p (JustificationsHold o q js (length js))
    (FailsFirst (JustificationHolds o q js) (length js)))
    c.in-None.is c.in_ok-place.ensures in
    subst (λ (xs : List Justification). JustificationsHold o q xs (length xs)) c.justifications-2.ensures.list none
