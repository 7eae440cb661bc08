-- When a relation on numbers says of an ontology which class is included in which.
use Rattle.std.specs.Prelude.{◌≡◌, ◌↔◌, ℕ, ◌+◌, ◌≤◌, ◌==◌, Bool, true, length, if◌then◌else◌}
use Rattle.shq_terms.specs.Concept.{Concept, top, bottom, name}
use Rattle.shq_terms.specs.Listed.{Listed}
use Rattle.shq_terms.specs.declared.axioms.On.TheVariants.{Any}
use Rattle.shq_terms.specs.declared.axioms.Query.{Query}
use Rattle.shq_meaning.specs.Truth.{Entails}
use Rattle.shq_oracle.specs.Theory.{all_axioms}

-- the class of a number, where so many classes are listed: first these, then owl:Thing, and then owl:Nothing
abbrev pub class_at : ℕ → ℕ → Concept
class_at count x = if x == count then top else (if x == count + 1 then bottom else name x)

-- the question whether x is included in y
abbrev pub query_at : ℕ → ℕ → ℕ → Query
query_at count x y = record { sub = class_at count x; sup = class_at count y; on = Any }

-- for each two classes it says whether the one is included in the other by the axioms (OWL 2 Direct Semantics, section
-- 2.5)
abbrev pub IsSubsumption : Listed → (ℕ → ℕ → Bool) → Type 0
IsSubsumption o test = (x y : ℕ) → x ≤ length o.classes + 1 → y ≤ length o.classes + 1
    → (test x y ≡ true ↔ Entails (all_axioms o.axioms) (query_at (length o.classes) x y))
