use Rattle.edit_session.proofs.Scratch.{from_scratch}
use Rattle.edit_session.proofs.laws.answers_are_from_scratch.Goals as goal

pub returns : goal.returns
returns c = from_scratch
