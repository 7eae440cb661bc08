use Rattle.std.proofs.Common.{◌≡◌, ◌++◌, drop}
use Rattle.step_lines.specs.Grounds.{apart_facts}
use Rattle.step_lines.proofs.most.push_apart.Given as goal

abbrev pub invariant-loop-place : goal.invariant-loop-place
invariant-loop-place l =
    l.grounds.items ++ apart_facts (drop l.place l.nodes) ≡ l.initial.grounds.items ++ apart_facts l.nodes
