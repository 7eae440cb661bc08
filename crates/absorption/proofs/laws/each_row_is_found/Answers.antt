use Rattle.absorption.proofs.Found.{each_found}
use Rattle.absorption.proofs.laws.each_row_is_found.Goals as goal

pub returns : goal.returns
returns c = each_found
