use Rattle.std.proofs.Common.{ℕ, subst}
use Rattle.axiom_sets.specs.Sets.{Limited, IsWithin}
use Rattle.audit_check.specs.Territory.{KeepsCommon}
use Rattle.audit_check.proofs.Growing.{are_choices}
use Rattle.audit_check.proofs.choices.choices.Goals as goal

pub returns-clause-members : goal.returns-clause-members
returns-clause-members c =
    let unmet = c.args.unmet.now in
    let candidates = c.args.candidates.now.members in
    let fitting = c.keep_common.new.one.members in
    are_choices c.args.sets.now unmet c.args.hit.now c.requires.listed c.requires.apart c.args.barred.now candidates
    fitting
    (subst (λ (n : ℕ). IsWithin n unmet.members) c.requires.unmet_limit c.limit-limit.ensures.within)
    c.requires.candidates
    (subst (λ (s : Limited). KeepsCommon candidates s.members fitting) c.in_ok-fitting.ensures
    c.in_ok-keep_common.ensures.members)
