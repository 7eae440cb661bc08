use Rattle.std.proofs.Common.{ap, ◌∙◌}
use Rattle.absorption.specs.Rows.{role_of_shape}
use Rattle.absorption.proofs.Listed.{shaped_role}
use Rattle.absorption.proofs.row.role_of_some.Goals as goal

pub returns : goal.returns
returns c =
    c.role_of_shape.ensures ∙ ap role_of_shape c.shape.ensures.shape
    ∙ shaped_role c.args.concepts.now c.shape.ensures.table c.args.concept c.requires
