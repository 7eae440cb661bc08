use Rattle.std.proofs.Common.{◌≡◌, ℕ, ◌+◌, ◌<◌, not, ◌∙◌, ap}
use Rattle.std.specs.FinSet as sets
use Rattle.lane_sieve.specs.Sets.{NumberSet}
use Rattle.axiom_sets.specs.Sets.{Limited}
use Rattle.subsumption.specs.Progress.{is_settled}
use Rattle.subsumption.proofs.Open.{left_open, found_open, found_has_open}
use Rattle.subsumption.proofs.progress.Progress.next_open.Goals as goal

pub returns-clause-found : goal.returns-clause-found
returns-clause-found c =
    let p = c.args.self.now in
    let x = c.args.class in
    let row = c.row.result.now.members in
    let left = c.take_all-2.new.self in
    let is : (y : ℕ) → y < p.known.count + 2 → sets.contains left.members (y + 1) ≡ not (is_settled p x y) =
    λ y lt. ap (λ (s : NumberSet). sets.contains s (y + 1))
    (c.take_all-2.ensures.members ∙ ap (λ (s : NumberSet). sets.difference s row) c.take_all.ensures.members)
    ∙ left_open p x c.args.unsettled.now c.above.result.now.members row c.requires.unsettled c.above.ensures.members
    (λ z. ap (λ (s : Limited). sets.contains s.members (z + 1)) c.row.ensures.row) y lt in
    found_open p x left.members is c.most_general.result c.most_general.ensures

pub returns-clause-unsettled : goal.returns-clause-unsettled
returns-clause-unsettled c =
    let p = c.args.self.now in
    let x = c.args.class in
    let row = c.row.result.now.members in
    let left = c.take_all-2.new.self in
    found_has_open p x left
    (λ y lt. ap (λ (s : NumberSet). sets.contains s (y + 1))
    (c.take_all-2.ensures.members ∙ ap (λ (s : NumberSet). sets.difference s row) c.take_all.ensures.members)
    ∙ left_open p x c.args.unsettled.now c.above.result.now.members row c.requires.unsettled c.above.ensures.members
    (λ z. ap (λ (s : Limited). sets.contains s.members (z + 1)) c.row.ensures.row) y lt)
