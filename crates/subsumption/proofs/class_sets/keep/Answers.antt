use Rattle.std.proofs.Common.{◌+◌, ◌∙◌, ap}
use Rattle.std.specs.FinSet as set
use Rattle.lane_sieve.specs.Sets.{NumberSet}
use Rattle.axiom_sets.specs.Sets.{Limited}
use Rattle.subsumption.proofs.Members.{kept_in}
use Rattle.subsumption.proofs.class_sets.keep.Goals as goal

pub returns-clause-members : goal.returns-clause-members
returns-clause-members c = λ x.
    ap (λ (m : NumberSet). set.contains m (x + 1)) c.take_all-2.ensures.members
    ∙ kept_in c.args.set.now.members c.args.other.now.members c.take_all.new.self.members
    (c.take_all.ensures.members
    ∙ ap (λ (s : Limited). set.difference s.members c.args.other.now.members) c.in_ok-rest.ensures)
    (x + 1)
