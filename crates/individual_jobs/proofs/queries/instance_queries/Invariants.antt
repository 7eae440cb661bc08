use Rattle.std.proofs.Common.{◌≡◌}
use Rattle.individual_jobs.specs.Searching.{instance_queries}
use Rattle.individual_jobs.proofs.queries.instance_queries.Given as goal

abbrev pub invariant-loop-individual : goal.invariant-loop-individual
invariant-loop-individual l = l.queries.items ≡ instance_queries l.class l.individual
