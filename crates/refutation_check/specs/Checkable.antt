-- What the checker asks for of an ontology and a query.
use Rattle.std.specs.Prelude.{ℕ, ◌≤◌, IsTrue, All, length}
use Rattle.shq_terms.specs.Listed.{Listed}
use Rattle.shq_terms.specs.declared.axioms.Query.{Query}
use Rattle.ontology_limits.specs.Counts.{has_counts_within}
use Rattle.ontology_limits.specs.Parts.{axiom_parts, axiom_has_counts_within}
use Rattle.ontology_limits.specs.Limits.{IsInLimit}

-- No cardinality is above 100, and no axiom has more than 500,000 parts. The roles that are counted need not be simple,
-- and the individual that the query is on need not be listed.
pub record IsCheckable (o : Listed) (q : Query) : Type 0 where
  pub axioms :
      All (λ n. IsTrue (axiom_has_counts_within 100 n.axiom) × (length (axiom_parts n.axiom) ≤ 500000)) o.axioms
  pub sub : IsTrue (has_counts_within 100 q.sub)
  pub sup : IsTrue (has_counts_within 100 q.sup)

-- what is within the limits can be checked
abbrev pub LimitsAreCheckable : Type 0
LimitsAreCheckable = (o : Listed) (q : Query) → IsInLimit o q → IsCheckable o q
