use Rattle.std.proofs.Common.{arith}
use Rattle.lane_sieve.specs.Sets.{passing}
use Rattle.subsumption.proofs.Passing.{listed_more, listed_whole}
use Rattle.realizer.specs.Candidates.{has_individual}
use Rattle.realizer.proofs.retrieval.listed.Goals as goal

pub loop-individual-preserved : goal.loop-individual-preserved
loop-individual-preserved c =
    let s = c.args.members.now in
    let p = has_individual s in
    listed_more p c.loop-individual.individual s.limit c.has.result c.loop-individual.found c.push_if.new.found
    (passing p 0 s.limit) (omega (arith, c.loop-individual-test.true, c.limit-individual-end.ensures.limit))
    c.has.ensures c.in_ok-push_if.ensures c.loop-individual.invariant

pub returns : goal.returns
returns c =
    let s = c.args.members.now in
    let p = has_individual s in
    listed_whole p c.loop-individual.individual s.limit c.loop-individual.found (passing p 0 s.limit)
    (omega (arith, c.loop-individual-test.false, c.limit-individual-end.ensures.limit)) c.loop-individual.invariant
