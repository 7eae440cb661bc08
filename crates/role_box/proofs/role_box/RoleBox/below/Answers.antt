use Rattle.std.proofs.Common.{arith, sym, ap, length, []}
use Rattle.role_box.proofs.Answering.{below_listed, below_outside, chain_from_test}
use Rattle.role_box.proofs.role_box.RoleBox.below.Goals as goal

pub returns-in-Some-clause-test : goal.returns-in-Some-clause-test
returns-in-Some-clause-test c =
    rw (← c.self.view_is)
    (below_listed c.self.inside.axioms.items c.self.inside.rows.items c.deref.result.now c.args.lower c.args.upper
    c.in-Some.row.now c.has_number.result
    c.deref.ensures.value c.in-Some.ensures.lookup.3.0 (c.in-Some.ensures.lookup.4 (omega arith) [])
    c.has_number.ensures c.self.invariant.rows_are)

pub returns-in-Some-clause-chain : goal.returns-in-Some-clause-chain
returns-in-Some-clause-chain c =
    chain_from_test c.args.self.now c.args.lower c.args.upper c.has_number.result (returns-in-Some-clause-test c)

pub returns-in-None-clause-test : goal.returns-in-None-clause-test
returns-in-None-clause-test c =
    rw (← c.self.view_is)
    (sym (below_outside c.self.inside.axioms.items c.args.lower c.args.upper
    (omega (arith, c.self.invariant.listed, c.in-None.ensures.lookup.3, ap length c.deref.ensures.value))))

pub returns-in-None-clause-chain : goal.returns-in-None-clause-chain
returns-in-None-clause-chain c =
    chain_from_test c.args.self.now c.args.lower c.args.upper _ (returns-in-None-clause-test c)
