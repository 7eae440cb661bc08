use Rattle.text_laws.proofs.Additions.{additions_counted}
use Rattle.text_laws.proofs.limit_laws.additions_are_counted.Goals as goal

pub returns : goal.returns
returns c = additions_counted
