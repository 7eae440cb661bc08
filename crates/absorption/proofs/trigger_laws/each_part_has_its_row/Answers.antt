use Rattle.absorption.proofs.Positions.{part_has_row}
use Rattle.absorption.proofs.trigger_laws.each_part_has_its_row.Goals as goal

pub returns : goal.returns
returns c = part_has_row
