use Rattle.calculus_specs.proofs.Broken.{judged}
use Rattle.calculus_specs.proofs.refutations.lines_are_valid_or_broken_at_one_place.Goals as goal

pub returns : goal.returns
returns c = judged
