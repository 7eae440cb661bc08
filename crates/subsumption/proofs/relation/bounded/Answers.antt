use Rattle.subsumption.proofs.Bounded.{three_more}
use Rattle.subsumption.proofs.relation.bounded.Goals as goal

pub loop-x-preserved : goal.loop-x-preserved
loop-x-preserved c =
    three_more c.args.size c.args.greatest c.args.least c.loop-x.x c.loop-x.matrix c.put.new.self
    c.put-in-loop-x.new.self c.put-in-loop-x-2.new.self c.loop-x.invariant c.put.ensures c.put-in-loop-x.ensures
    c.put-in-loop-x-2.ensures
