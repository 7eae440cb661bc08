use Rattle.std.proofs.Common.{◌+◌, ap, arith, ◌∙◌}
use Rattle.shq_nnf.specs.Counts.{has_counts_within}
use Rattle.shq_nnf.proofs.Bounded.{counts_at}
use Rattle.shq_nnf.proofs.Pairs.{pair_after, pairs_after}
use Rattle.shq_nnf.proofs.parts.pair_at.Goals as goal

pub returns-then-rest-later-clause-first_counts : goal.returns-then-rest-later-clause-first_counts
returns-then-rest-later-clause-first_counts c =
    ap (has_counts_within 100) c.index-classes-first.is
    ∙ counts_at 100 c.args.classes.now c.loop-first.first c.index-classes-first.result c.loop-first-test.true
    c.requires.counts

pub returns-then-rest-later-clause-second_counts : goal.returns-then-rest-later-clause-second_counts
returns-then-rest-later-clause-second_counts c =
    ap (has_counts_within 100) c.index-classes-first-then-rest-later.is
    ∙ counts_at 100 c.args.classes.now (c.loop-first.first + 1 + c.loop-first.rest)
    c.index-classes-first-then-rest-later.result (omega arith) c.requires.counts

pub loop-first-preserved : goal.loop-first-preserved
loop-first-preserved c = record {
  listed =
      pairs_after c.args.classes.now c.loop-first.first c.loop-first.rest c.loop-first-test.true c.if-rest-later.false
      c.loop-first.invariant.listed;
  same =
      pair_after c.args.classes.now c.loop-first.first c.loop-first.rest c.loop-first-test.true c.if-rest-later.false
      ∙ c.loop-first.invariant.same;
}
