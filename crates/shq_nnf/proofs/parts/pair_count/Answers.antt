use Rattle.std.proofs.Common.{arith}
use Rattle.shq_nnf.proofs.Pairs.{pair_total}
use Rattle.shq_nnf.proofs.parts.pair_count.Goals as goal

pub overflow_mul-result : goal.overflow_mul-result
overflow_mul-result c = omega (arith, c.requires, pair_total c.args.classes.now)

pub overflow_cast-result : goal.overflow_cast-result
overflow_cast-result c = omega (arith, c.requires, pair_total c.args.classes.now)

pub returns : goal.returns
returns c = omega (arith, pair_total c.args.classes.now)
