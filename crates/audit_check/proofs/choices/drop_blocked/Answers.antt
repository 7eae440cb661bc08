use Rattle.std.proofs.Common.{◌≡◌, ap, ◌∙◌}
use Rattle.std.specs.FinSet as set
use Rattle.axiom_sets.specs.Sets.{Limited}
use Rattle.audit_check.proofs.Growing.{leaves_free}
use Rattle.audit_check.proofs.choices.drop_blocked.Goals as goal

pub returns-clause-members : goal.returns-clause-members
returns-clause-members c =
    let hit = c.args.hit.now in
    let u = c.args.number in
    let others = c.take.new.self.members in
    let e : others ≡ set.remove hit.members u =
    c.take.ensures.members ∙ ap (λ (s : Limited). set.remove s.members u) c.in_ok-others.ensures in
    leaves_free c.args.sets.now hit u others e c.args.fitting.now.members c.in_ok-blocked.blocked.members
    c.take_all.new.self.members c.in_ok-blocked.ensures.members c.take_all.ensures.members
