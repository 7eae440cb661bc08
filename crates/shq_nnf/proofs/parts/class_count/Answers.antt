use Rattle.std.proofs.Common.{arith, sym}
use Rattle.shq_nnf.proofs.Pairs.{length_equivalent}
use Rattle.shq_nnf.proofs.parts.class_count.Goals as goal

pub overflow_cast-result : goal.overflow_cast-result
overflow_cast-result c = omega (arith, c.requires, length_equivalent c.args.classes.now)

pub returns : goal.returns
returns c = sym (length_equivalent c.args.classes.now)
