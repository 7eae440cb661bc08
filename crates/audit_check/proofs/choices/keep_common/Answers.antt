use Rattle.std.proofs.Common.{ap, ◌∙◌}
use Rattle.std.specs.FinSet as set
use Rattle.axiom_sets.specs.Sets.{Limited}
use Rattle.audit_check.proofs.Growing.{common}
use Rattle.audit_check.proofs.choices.keep_common.Goals as goal

pub returns-clause-members : goal.returns-clause-members
returns-clause-members c =
    let old = c.args.one.now.members in
    let other = c.args.other.now.members in
    let lost = c.take_all.new.self.members in
    common other old lost c.take_all-2.new.self.members
    (c.take_all.ensures.members ∙ ap (λ (s : Limited). set.difference s.members other) c.in_ok-lost.ensures)
    c.take_all-2.ensures.members
