use Rattle.std.proofs.Common.{ap, sym, ◌∙◌}
use Rattle.std.specs.FinSet as sets
use Rattle.lane_sieve.specs.Sets.{NumberSet}
use Rattle.closed_search.proofs.Put.{put_in}
use Rattle.closed_search.proofs.naming.put_member.Goals as goal

pub returns-then-is_member-clause-members : goal.returns-then-is_member-clause-members
returns-then-is_member-clause-members c = λ k.
    ap (λ (s : NumberSet). sets.contains s k) c.put.ensures.members
    ∙ put_in c.args.set.now.members c.args.named.now.members c.args.number
    (sym c.is_member.ensures.member ∙ c.if-is_member.true) k
