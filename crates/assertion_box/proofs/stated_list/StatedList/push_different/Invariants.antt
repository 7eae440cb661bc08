use Rattle.std.proofs.Common.{◌≡◌, ◌+◌, ◌++◌, length, drop}
use Rattle.refutation_truth.specs.Facts.{apart_facts}
use Rattle.assertion_box.specs.Stated.{numbered_facts}
use Rattle.assertion_box.proofs.stated_list.StatedList.push_different.Given as goal

abbrev pub invariant-loop-first : goal.invariant-loop-first
invariant-loop-first l = record {
  long : length l.self + 1 ≡ length l.fn.self + l.place;
  same : l.self ++ numbered_facts l.number l.place (apart_facts (drop l.first l.individuals))
      ≡ l.fn.self ++ numbered_facts l.number 1 (apart_facts l.individuals);
}
