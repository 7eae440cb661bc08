use Rattle.lane_sieve.proofs.Bits.{contains-number_set}
use Rattle.lane_sieve.proofs.law.words_are_sets.Goals as goal

pub returns : goal.returns
returns c = contains-number_set
