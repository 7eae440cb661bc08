use Rattle.std.proofs.Common.{}
use Rattle.guided_search.proofs.WorkedTableau.{worked_out}
use Rattle.guided_search.proofs.examples.examples_hold.Goals as goal

pub returns : goal.returns
returns c = worked_out
