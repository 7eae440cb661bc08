use Rattle.std.proofs.Common.{◌-◌, drop, arith, sym, ◌∙◌}
use Rattle.std.proofs.lemmas.List.{length-drop}
use Rattle.row_cache.proofs.Places.{short_ascends}
use Rattle.row_cache.proofs.cached_row.is_ascending.Goals as goal

pub returns : goal.returns
returns c =
    let rest = drop (c.loop-index.index - 1) c.args.positions.now in
    sym (short_ascends rest (omega (arith, length-drop (c.loop-index.index - 1) c.args.positions.now)))
    ∙ c.loop-index.invariant
