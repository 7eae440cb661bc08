use Rattle.std.proofs.Common.{◌≡◌, ◌++◌, map, drop}
use Rattle.calculus_specs.specs.declared.facts.Fact.TheVariants.{Apart}
use Rattle.step_lines.proofs.most.push_apart_from.Given as goal

abbrev pub invariant-loop-other : goal.invariant-loop-other
invariant-loop-other l =
    l.grounds.items ++ map (Apart l.first) (drop l.other-index l.others)
    ≡ l.initial.grounds.items ++ map (Apart l.first) l.others
