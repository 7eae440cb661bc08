use Rattle.std.proofs.Common.{◌≡◌, take}
use Rattle.ontology_limits.specs.Paths.{is_below}
use Rattle.search_rules.specs.Files.{waits_for, rows_among}
use Rattle.search_rules.proofs.edge_tables.rows_above.Given as goal

abbrev pub invariant-loop-upper : goal.invariant-loop-upper
invariant-loop-upper l =
    l.list ≡ rows_among (is_below l.roles) (waits_for l.side) l.rows.at_roles (take l.upper-index l.used) l.role
