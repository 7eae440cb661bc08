use Rattle.std.proofs.Common.{}
use Rattle.shq_nnf.proofs.Facts.{assertion_is_facts}
use Rattle.shq_nnf.proofs.laws.assertions_are_their_facts.Goals as goal

pub returns : goal.returns
returns c = λ i a h. assertion_is_facts i a h
