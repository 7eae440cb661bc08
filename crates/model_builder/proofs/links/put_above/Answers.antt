use Rattle.std.proofs.Common.{◌≡◌, arith}
use Rattle.model_builder.proofs.Ends.{above_ends}
use Rattle.model_builder.proofs.links.put_above.Goals as goal

pub returns : goal.returns
returns c =
    let all : c.loop-upper.upper ≡ c.args.role_count = omega arith in above_ends _ _ _ _ _ _ all c.loop-upper.invariant
