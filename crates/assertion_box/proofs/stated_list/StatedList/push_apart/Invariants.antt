use Rattle.std.proofs.Common.{◌≡◌, ◌+◌, ◌++◌, map, length, drop}
use Rattle.calculus_specs.specs.declared.facts.Fact.TheVariants.{Apart}
use Rattle.assertion_box.specs.Stated.{numbered_facts}
use Rattle.assertion_box.proofs.stated_list.StatedList.push_apart.Given as goal

abbrev pub invariant-loop-other : goal.invariant-loop-other
invariant-loop-other l = record {
  long : length l.self ≡ length l.fn.self + l.other;
  same : l.self ++ numbered_facts l.number (l.place + l.other) (map (Apart l.individual) (drop l.other l.others))
      ≡ l.fn.self ++ numbered_facts l.number l.place (map (Apart l.individual) l.others);
}
