use Rattle.lane_sieve.proofs.Bits.{number_set-put}
use Rattle.lane_sieve.proofs.members.put_number.Goals as goal

pub returns : goal.returns
returns c = number_set-put c.args.words.now c.args.number c.requires
