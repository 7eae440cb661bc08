-- The instances of a class expression among the listed individuals, and the text that lists them.
use Rattle.std.specs.Prelude.{◌≡◌, ◌↔◌, ℕ, ◌<◌, Bool, true, List, [], ◌∷◌, ◌++◌, length, codes, decimal}
use Rattle.lane_sieve.specs.Sets.{passing}
use Rattle.shq_terms.specs.Concept.{Concept, top}
use Rattle.shq_terms.specs.Listed.{Listed}
use Rattle.shq_terms.specs.declared.axioms.On.TheVariants.{Individual}
use Rattle.shq_terms.specs.declared.axioms.Query.{Query}
use Rattle.shq_meaning.specs.Truth.{Entails}
use Rattle.subsumption.specs.Theory.{all_axioms}
use Rattle.ofn_writer.specs.Canonical.{individual_text, line}

-- ---- instances

-- the question whether the individual is in the class expression
abbrev pub instance_query : Concept → ℕ → Query
instance_query c a = record { sub = top; sup = c; on = Individual a }

-- it is, by all axioms (OWL 2 Direct Semantics, section 2.5)
abbrev pub IsInstance : Listed → Concept → ℕ → Type 0
IsInstance o c a = Entails (all_axioms o.axioms) (instance_query c a)

-- a test says of each listed individual whether it is an instance
abbrev pub IsMembership : Listed → Concept → (ℕ → Bool) → Type 0
IsMembership o c test = (a : ℕ) → a < length o.individuals → (test a ≡ true ↔ IsInstance o c a)

-- the listed individuals that pass a test, in list order
abbrev pub individuals_by : Listed → (ℕ → Bool) → List ℕ
individuals_by o test = passing test 0 (length o.individuals)

-- these are just the instances among the listed individuals, in list order
pub record AreInstances (o : Listed) (c : Concept) (found : List ℕ) : Type 0 where
  pub test : ℕ → Bool
  pub is_so : IsMembership o c test
  pub listed : found ≡ individuals_by o test

-- ---- their text

-- one name on a line
abbrev pub individual_lines : Listed → List ℕ → List ℕ
individual_lines o [] = []
individual_lines o (a ∷ found) = line (individual_text o a) ++ individual_lines o found

-- `instances`, how many there are, and each of them
abbrev pub instances_text : Listed → List ℕ → List ℕ
instances_text o found = line (codes "instances " ++ decimal (length found)) ++ individual_lines o found
