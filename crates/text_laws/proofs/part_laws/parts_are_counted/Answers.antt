use Rattle.text_laws.proofs.Counted.{parts_counted}
use Rattle.text_laws.proofs.part_laws.parts_are_counted.Goals as goal

pub returns : goal.returns
returns c = parts_counted
