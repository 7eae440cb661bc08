use Rattle.std.proofs.Common.{◌+◌, ap, ◌∙◌}
use Rattle.std.specs.FinSet as set
use Rattle.lane_sieve.specs.Sets.{NumberSet}
use Rattle.tableau.proofs.Sets.{holds-insert}
use Rattle.tableau.proofs.seen.put_class.Goals as goal

pub returns-then-class-limit : goal.returns-then-class-limit
returns-then-class-limit c = record {
  limit = c.put.ensures.limit;
  held =
      λ a lt. ap (λ (s : NumberSet). set.contains s (a + 1)) c.put.ensures.members
      ∙ holds-insert c.args.set.now.limit c.args.set.now c.args.class a;
}
