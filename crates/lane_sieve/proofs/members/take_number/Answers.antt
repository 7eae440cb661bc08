use Rattle.lane_sieve.proofs.Bits.{number_set-take}
use Rattle.lane_sieve.proofs.members.take_number.Goals as goal

pub returns : goal.returns
returns c = number_set-take c.args.words.now c.args.number c.requires
