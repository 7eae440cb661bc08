use Rattle.std.proofs.Common.{◌≡◌, drop}
use Rattle.ofn_expressions.specs.Counts.{Counts}
use Rattle.ofn_expressions.specs.Walk.{walked}
use Rattle.ofn_reader.specs.Prefixes.{prefixes_tests, prefixes_behind}
use Rattle.ofn_reader.proofs.prefix_groups.read_prefixes.Given as goal

abbrev pub invariant-loop-group : goal.invariant-loop-group
invariant-loop-group l = record {
  tests : (s : Counts)
      → walked s (prefixes_tests l.fn.prefixes l.groups)
      ≡ walked s (prefixes_tests l.prefixes (drop l.group-index l.groups));
  declared : prefixes_behind l.prefixes (drop l.group-index l.groups) ≡ prefixes_behind l.fn.prefixes l.groups;
}
