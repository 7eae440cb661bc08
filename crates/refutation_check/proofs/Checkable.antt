-- What is within the limits can be checked.
use Rattle.std.proofs.lemmas.Bool.{and_parts}
use Rattle.ontology_limits.specs.Counts.{has_counts_within}
use Rattle.ontology_limits.proofs.Each.{each_is_within}
use Rattle.refutation_check.specs.Checkable.{LimitsAreCheckable}

pub in_limit_checkable : LimitsAreCheckable
in_limit_checkable o q limit =
    let counts = and_parts (has_counts_within 100 q.sub) (has_counts_within 100 q.sup) limit.counts in
    record { axioms = each_is_within o limit.ontology; sub = counts.0; sup = counts.1 }
