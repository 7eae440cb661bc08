use Rattle.absorption.proofs.Meets.{part_is_row}
use Rattle.absorption.proofs.trigger_laws.rows_are_their_parts.Goals as goal

pub returns : goal.returns
returns c = part_is_row
