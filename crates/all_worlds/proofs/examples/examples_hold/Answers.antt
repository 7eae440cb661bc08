use Rattle.std.proofs.Common.{}
use Rattle.all_worlds.proofs.Chains.{worked_out}
use Rattle.all_worlds.proofs.examples.examples_hold.Goals as goal

pub returns : goal.returns
returns c = worked_out
