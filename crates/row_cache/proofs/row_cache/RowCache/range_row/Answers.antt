use Rattle.std.proofs.Common.{sym, ◌∙◌}
use Rattle.row_cache.proofs.row_cache.RowCache.range_row.Goals as goal

pub returns-in-Some-clause-row : goal.returns-in-Some-clause-row
returns-in-Some-clause-row c =
    rw (← c.self.view_is)
    (c.self.invariant.current.ranges_are c.args.axiom c.in-Some.row (sym c.find_range.ensures ∙ c.in-Some.is))
