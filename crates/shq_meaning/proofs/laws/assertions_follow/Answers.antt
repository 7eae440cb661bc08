use Rattle.std.proofs.Common.{}
use Rattle.shq_meaning.proofs.Asserted.{assertion_follows}
use Rattle.shq_meaning.proofs.laws.assertions_follow.Goals as goal

pub returns : goal.returns
returns c = assertion_follows
