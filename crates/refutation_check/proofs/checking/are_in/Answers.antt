use Rattle.refutation_check.proofs.Named.{all_in}
use Rattle.refutation_check.proofs.checking.are_in.Goals as goal

pub returns : goal.returns
returns c = all_in c.args.named.now c.args.set.now c.limit-limit.ensures.within c.are_all_in.result c.are_all_in.ensures
