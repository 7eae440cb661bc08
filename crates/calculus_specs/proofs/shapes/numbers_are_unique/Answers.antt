use Rattle.calculus_specs.proofs.Unique.{numbers_unique}
use Rattle.calculus_specs.proofs.shapes.numbers_are_unique.Goals as goal

pub returns : goal.returns
returns c = numbers_unique
