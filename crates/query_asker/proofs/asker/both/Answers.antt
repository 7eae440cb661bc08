use Rattle.std.proofs.Common.{◌≡◌, ◌∙◌, ap}
use Rattle.std.specs.FinSet as set
use Rattle.lane_sieve.specs.Sets.{NumberSet}
use Rattle.axiom_sets.specs.Sets.{Limited}
use Rattle.query_asker.proofs.Local.{without_outside}
use Rattle.query_asker.proofs.asker.both.Goals as goal

pub returns-clause-members : goal.returns-clause-members
returns-clause-members c =
    let one = c.args.one.now.members in
    let other = c.args.other.now.members in
    let members : Limited → NumberSet = λ s. s.members in
    let outside : c.take_all.new.self.members ≡ set.difference other one =
    c.take_all.ensures.members ∙ ap (λ (s : NumberSet). set.difference s one) (ap members c.in_ok-outside.ensures) in
    c.take_all-2.ensures.members
    ∙ ap (λ (s : NumberSet). set.difference s c.take_all.new.self.members) (ap members c.in_ok-part.ensures)
    ∙ ap (λ (s : NumberSet). set.difference other s) outside
    ∙ without_outside other one
