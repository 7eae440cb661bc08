use Rattle.std.proofs.Common.{arith}
use Rattle.row_cache.proofs.Numbers.{extends_twice}
use Rattle.row_cache.specs.Steps.{is_transitive}
use Rattle.row_cache.specs.Paths.{is_below}
use Rattle.absorption.proofs.Carried.{more_needed, all_closed}
use Rattle.absorption.proofs.closing.close.Goals as goal

pub loop-next-preserved : goal.loop-next-preserved
loop-next-preserved c =
    let before = c.loop-next.concepts in
    let after = c.put_needed-outcome.new.concepts in
    record {
      needed =
          more_needed (is_below c.args.roles.now) (is_transitive c.args.roles.now) before after c.loop-next.next
          c.len.ensures.table c.put_needed-outcome.ensures.kept
          (omega (arith, c.loop-next-test.true, c.len.ensures.count)) c.loop-next.invariant.needed
          c.in_ok-outcome.ensures.needed;
      kept =
          extends_twice c.args.concepts.now before after c.loop-next.invariant.kept c.put_needed-outcome.ensures.kept;
    }

pub returns-clause-closed : goal.returns-clause-closed
returns-clause-closed c =
    all_closed (is_below c.args.roles.now) (is_transitive c.args.roles.now) c.loop-next.concepts
    (λ k lt. c.loop-next.invariant.needed k (omega (arith, lt, c.loop-next-test.false, c.len.ensures.count)))
