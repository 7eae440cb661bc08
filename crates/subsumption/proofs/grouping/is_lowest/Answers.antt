use Rattle.subsumption.specs.Rows.{holds}
use Rattle.subsumption.proofs.NoneBelow.{lowest_where_apart, put_back}
use Rattle.subsumption.proofs.grouping.is_lowest.Goals as goal

pub returns-clause-lowest : goal.returns-clause-lowest
returns-clause-lowest c =
    lowest_where_apart c.args.relation.now.count c.args.class (holds c.args.relation.now) c.args.set.now
    c.below.result.now c.take.new.self c.below.ensures.within c.requires.set c.below.ensures.members
    c.take.ensures.members c.meets-lowest.result c.meets-lowest.ensures

pub returns-clause-same : goal.returns-clause-same
returns-clause-same c =
    put_back c.args.relation.now.count c.args.class (holds c.args.relation.now) c.args.set.now c.below.result.now
    c.take.new.self c.below.ensures.within c.requires.set c.below.ensures.members c.take.ensures.members c.put.new.self
    c.requires.member c.put.ensures.members
