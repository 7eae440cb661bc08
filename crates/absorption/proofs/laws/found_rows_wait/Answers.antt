use Rattle.absorption.proofs.Found.{finds}
use Rattle.absorption.proofs.laws.found_rows_wait.Goals as goal

pub returns : goal.returns
returns c = finds
