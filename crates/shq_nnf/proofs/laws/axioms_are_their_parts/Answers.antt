use Rattle.std.proofs.Common.{}
use Rattle.shq_nnf.proofs.Meeting.{axiom_is_parts}
use Rattle.shq_nnf.proofs.laws.axioms_are_their_parts.Goals as goal

pub returns : goal.returns
returns c = λ i a h e. axiom_is_parts i a h e
