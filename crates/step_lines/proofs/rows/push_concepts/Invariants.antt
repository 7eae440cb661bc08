use Rattle.std.proofs.Common.{◌≡◌, ◌++◌, map, drop}
use Rattle.calculus_specs.specs.declared.facts.Fact.TheVariants.{Has}
use Rattle.step_lines.proofs.rows.push_concepts.Given as goal

abbrev pub invariant-loop-concept : goal.invariant-loop-concept
invariant-loop-concept l =
    l.grounds.items ++ map (Has l.node) (drop l.concept-index l.concepts)
    ≡ l.initial.grounds.items ++ map (Has l.node) l.concepts
