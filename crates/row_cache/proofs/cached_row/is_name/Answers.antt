use Rattle.std.proofs.Common.{ap, ◌∙◌}
use Rattle.row_cache.specs.Rows.{is_name_shape}
use Rattle.row_cache.proofs.Places.{name_shaped}
use Rattle.row_cache.proofs.cached_row.is_name.Goals as goal

pub returns : goal.returns
returns c =
    c.is_name_shape.ensures ∙ ap is_name_shape c.shape.ensures.shape
    ∙ name_shaped c.args.concepts.now c.shape.ensures.table c.args.concept c.requires
