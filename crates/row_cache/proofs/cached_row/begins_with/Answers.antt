use Rattle.std.proofs.Common.{sym, ◌∙◌}
use Rattle.row_cache.proofs.Places.{first_alone}
use Rattle.row_cache.proofs.cached_row.begins_with.Goals as goal

pub returns-then-not-is_empty-clause-is_first : goal.returns-then-not-is_empty-clause-is_first
returns-then-not-is_empty-clause-is_first c =
    first_alone c.args.place c.args.positions.now c.requires.ascending c.requires.low
    (sym c.is_empty.ensures ∙ c.if-not-is_empty.true)
