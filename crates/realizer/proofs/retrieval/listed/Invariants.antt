use Rattle.std.proofs.Common.{◌≡◌, ◌++◌, ◌-◌}
use Rattle.lane_sieve.specs.Sets.{passing}
use Rattle.realizer.specs.Candidates.{has_individual}
use Rattle.realizer.proofs.retrieval.listed.Given as goal

abbrev pub invariant-loop-individual : goal.invariant-loop-individual
invariant-loop-individual l =
    l.found ++ passing (has_individual l.members) l.individual (l.members.limit - l.individual)
    ≡ passing (has_individual l.members) 0 l.members.limit
