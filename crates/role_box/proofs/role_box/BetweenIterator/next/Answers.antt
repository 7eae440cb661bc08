use Rattle.std.proofs.Common.{length, arith, sym, ◌∙◌, ap}
use Rattle.role_box.proofs.TransitiveRoles.{between_hit, between_miss}
use Rattle.role_box.proofs.role_box.BetweenIterator.next.Goals as goal

pub returns-then-is_between-clause-steps : goal.returns-then-is_between-clause-steps
returns-then-is_between-clause-steps c =
    sym c.loop-self.invariant.left
    ∙ between_hit c.loop-self.self-inside.roles.now c.loop-self.self-inside.lower c.loop-self.self-inside.upper
    c.loop-self.self-inside.next c.loop-self.self-inside.end c.loop-self-test.true (sym c.if-is_between.ensures)

pub returns-then-is_between-clause-goes : goal.returns-then-is_between-clause-goes
returns-then-is_between-clause-goes c =
    let e =
    ap length
    (sym c.loop-self.invariant.left
    ∙ between_hit c.loop-self.self-inside.roles.now c.loop-self.self-inside.lower c.loop-self.self-inside.upper
    c.loop-self.self-inside.next c.loop-self.self-inside.end c.loop-self-test.true (sym c.if-is_between.ensures)) in
    record { on = λ _. (tt, tt, omega (arith, e)); keeps = tt; rests = λ _. tt }

pub loop-self-preserved : goal.loop-self-preserved
loop-self-preserved c = record {
  left =
      sym (between_miss c.loop-self.self-inside.roles.now c.loop-self.self-inside.lower c.loop-self.self-inside.upper
      c.loop-self.self-inside.next c.loop-self.self-inside.end c.loop-self-test.true (sym c.if-is_between.ensures))
      ∙ c.loop-self.invariant.left;
  limit = c.loop-self.invariant.limit;
}
