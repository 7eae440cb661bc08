-- What follows from the limits.
use Rattle.std.specs.Prelude.{◌≡◌, ℕ, ◌≤◌, true, List, length, IsTrue, All}
use Rattle.std.specs.List.{list_all}
use Rattle.role_box.specs.Listed.{Listed}
use Rattle.role_box.specs.Numbered.{Numbered}
use Rattle.role_box.specs.Query.{Query}
use Rattle.shq_nnf.specs.Parts.{axiom_parts, axiom_has_counts_within}
use Rattle.role_box.specs.RoleAxioms.{role_axioms}
use Rattle.role_box.specs.Counted.{counted_by_query}
use Rattle.role_box.specs.Simple.{is_simple, are_simple, counts_simple, all_role_axioms}
use Rattle.ontology_limits.specs.Limits.{IsOntologyInLimit, IsInLimit}

-- a role that is simple by all axioms is simple by those of any numbers
abbrev pub SimpleRolesStaySimple : Type 0
SimpleRolesStaySimple = (axioms : List Numbered) (ks : List ℕ) (s : ℕ) → is_simple (all_role_axioms axioms) s ≡ true
    → is_simple (role_axioms axioms ks) s ≡ true

-- so each role that an axiom counts is simple by them
abbrev pub CountsStaySimple : Type 0
CountsStaySimple = (o : Listed) (ks : List ℕ) → IsOntologyInLimit o
    → list_all (counts_simple (role_axioms o.axioms ks)) o.axioms ≡ true

-- and each that the query counts
abbrev pub QueryCountsStaySimple : Type 0
QueryCountsStaySimple = (o : Listed) (q : Query) (ks : List ℕ) → IsInLimit o q
    → are_simple (role_axioms o.axioms ks) (counted_by_query q) ≡ true

-- no axiom alone has a cardinality above 100, or more parts than all axioms may have
abbrev pub EachAxiomIsInLimit : Type 0
EachAxiomIsInLimit = (o : Listed) → IsOntologyInLimit o
    → All (λ n. IsTrue (axiom_has_counts_within 100 n.axiom) × (length (axiom_parts n.axiom) ≤ 500000)) o.axioms
