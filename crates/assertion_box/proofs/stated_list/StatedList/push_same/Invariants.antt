use Rattle.std.proofs.Common.{◌≡◌, ◌+◌, ◌-◌, ◌++◌, length, drop}
use Rattle.refutation_truth.specs.Facts.{same_facts}
use Rattle.assertion_box.specs.Stated.{numbered_facts}
use Rattle.assertion_box.proofs.stated_list.StatedList.push_same.Given as goal

abbrev pub invariant-loop-next : goal.invariant-loop-next
invariant-loop-next l = record {
  long : length l.self + 1 ≡ length l.fn.self + l.next;
  same : l.self ++ numbered_facts l.number l.next (same_facts (drop (l.next - 1) l.individuals))
      ≡ l.fn.self ++ numbered_facts l.number 1 (same_facts l.individuals);
}
