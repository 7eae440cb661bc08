use Rattle.std.proofs.Common.{arith}
use Rattle.search_rules.proofs.Edges.{limit_more, limit_all}
use Rattle.search_rules.proofs.edge_tables.limit_of.Goals as goal

pub loop-role-preserved : goal.loop-role-preserved
loop-role-preserved c = record {
  outside = λ r s le. c.loop-role.invariant.outside r s (omega (arith, le, c.limit_above-limit.ensures.kept));
  unused =
      limit_more c.args.used.now c.loop-role.role-index c.loop-role.limit c.limit_above-limit.result
      c.loop-role-test.true c.limit_above-limit.ensures.kept c.limit_above-limit.ensures.above
      c.loop-role.invariant.unused;
  small = c.limit_above-limit.ensures.small c.loop-role.invariant.small;
}

pub returns-clause-unused : goal.returns-clause-unused
returns-clause-unused c =
    limit_all c.args.used.now c.loop-role.role-index c.loop-role.limit c.loop-role-test.false
    c.loop-role.invariant.unused
