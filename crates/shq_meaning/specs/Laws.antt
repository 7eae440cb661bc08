-- What the definitions entail about one another.
use Rattle.std.specs.Prelude.{ℕ, ◌<◌, ◌≤◌, IsTrue, List, [], ◌∷◌, Contains}
use Rattle.shq_terms.specs.Concept.{Concept, bottom}
use Rattle.shq_terms.specs.declared.axioms.Axiom.{Axiom}
use Rattle.shq_terms.specs.declared.axioms.Axiom.TheVariants.{SubClassOf, Member}
use Rattle.shq_terms.specs.declared.axioms.Query.{Query}
use Rattle.shq_meaning.specs.Truth.{Interpretation, PlacesIndividuals, meets_all, refutes_at, Entails}
use Rattle.shq_meaning.specs.Examples.{is_in}

-- what follows from some axioms follows from more
abbrev pub EntailmentIsMonotone : Type 0
EntailmentIsMonotone =
    (few many : List Axiom) (q : Query) → ((a : Axiom) → Contains few a → Contains many a) → Entails few q
    → Entails many q

-- where an interpretation meets the axioms, and some element of it is a counter-example, the query does not follow
abbrev pub CounterModelsRefute : Type 0
CounterModelsRefute =
    (i : Interpretation) (as_ : List Axiom) (q : Query) (x : ℕ) → 1 ≤ i.size → PlacesIndividuals i
    → IsTrue (meets_all i as_) → x < i.size → IsTrue (refutes_at i q x) → Entails as_ q → ⊥

-- an individual of a class that has no element leaves no model, since each individual is an element: every query
-- follows
abbrev pub EmptyClassesHaveNoMember : Type 0
EmptyClassesHaveNoMember = (c : Concept) (a : ℕ) (q : Query) → Entails (Member c a ∷ SubClassOf c bottom ∷ []) q

-- what is asserted of an individual follows as a query on it
abbrev pub AssertionsFollow : Type 0
AssertionsFollow = (c : Concept) (a : ℕ) → Entails (Member c a ∷ []) (is_in c a)
