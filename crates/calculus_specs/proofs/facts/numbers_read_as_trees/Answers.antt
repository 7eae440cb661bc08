use Rattle.calculus_specs.proofs.Reading.{has-read}
use Rattle.calculus_specs.proofs.facts.numbers_read_as_trees.Goals as goal

pub returns : goal.returns
returns c = has-read
