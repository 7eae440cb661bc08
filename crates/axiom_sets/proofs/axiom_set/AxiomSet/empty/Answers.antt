use Rattle.std.proofs.Common.{◌+◌, ◌/◌, ◌∙◌, ap}
use Rattle.lane_sieve.specs.Sets.{number_set}
use Rattle.lane_sieve.proofs.Vectors.{number_set-zeros}
use Rattle.axiom_sets.proofs.Kept.{kept-zeros}
use Rattle.axiom_sets.proofs.axiom_set.AxiomSet.empty.Goals as goal

pub invariant_of-result : goal.invariant_of-result
invariant_of-result c = kept-zeros c.args.limit c.in_ok-words.words.items c.ranges.limit.fits c.in_ok-words.ensures

pub returns-clause-members : goal.returns-clause-members
returns-clause-members c = ap number_set c.in_ok-words.ensures ∙ number_set-zeros (c.args.limit / 64 + 1)
