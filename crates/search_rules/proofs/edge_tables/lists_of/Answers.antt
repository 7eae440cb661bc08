use Rattle.std.proofs.Common.{◌≡◌, [], ℕ, List, arith}
use Rattle.step_finders.specs.declared.state.PlainRow.{PlainRow}
use Rattle.ontology_limits.specs.Paths.{is_below}
use Rattle.search_rules.specs.Files.{waits_for, rows_among}
use Rattle.search_rules.proofs.Numbered.{each_number}
use Rattle.search_rules.proofs.Edges.{none_behind}
use Rattle.search_rules.proofs.edge_tables.lists_of.Goals as goal

pub returns : goal.returns
returns c =
    let below = is_below c.args.roles.now in
    let lists = c.args.rows.now.at_roles in
    let used = c.args.used.now in
    each_number (λ (r : ℕ) (l : List PlainRow). l ≡ rows_among below (waits_for c.args.side) lists used r) []
    c.loop-role.role c.loop-role.lists.items c.loop-role.invariant.long c.loop-role.invariant.each
    (λ r le. none_behind below (waits_for c.args.side) lists c.limit_of-limit.result r
    (λ s. c.limit_of-limit.ensures.outside r s (omega (arith, le, c.loop-role-test.false, c.loop-role.auto.role-end)))
    (omega (arith, le, c.loop-role-test.false, c.loop-role.auto.role-end)) used c.limit_of-limit.ensures.unused)
