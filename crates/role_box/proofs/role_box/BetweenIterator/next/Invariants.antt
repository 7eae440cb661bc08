use Rattle.std.proofs.Common.{◌≡◌, ◌≤◌, ◌-◌}
use Rattle.role_box.specs.Closure.{between_from}
use Rattle.role_box.proofs.role_box.BetweenIterator.next.Given as goal

abbrev pub invariant-loop-self : goal.invariant-loop-self
invariant-loop-self l = record {
  left : between_from l.self-inside.roles.now l.self-inside.lower l.self-inside.upper l.self-inside.next
      l.self-inside.end
      ≡ l.fn.self;
  limit : l.self-inside.end ≤ 1000;
}

abbrev pub decreases-loop-self : goal.decreases-loop-self
decreases-loop-self l = l.self-inside.end - l.self-inside.next
