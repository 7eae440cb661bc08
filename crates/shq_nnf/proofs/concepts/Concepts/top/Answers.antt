use Rattle.std.proofs.Common.{}
use Rattle.shq_nnf.proofs.Numbers.{top_number}
use Rattle.shq_nnf.proofs.concepts.Concepts.top.Goals as goal

pub returns : goal.returns
returns c = top_number c.args.self.now c.len-count.ensures.table
