-- The facts that an assertion gives (OWL 2 Structural Specification, section 9.6: `ClassAssertion`,
-- `ObjectPropertyAssertion`, `SameIndividual`, `DifferentIndividuals`), in order. The individual of a number is the
-- node of that number.
use Rattle.std.specs.Prelude.{ℕ, ◌-◌, ◌==◌, List, [], ◌∷◌, ◌++◌, map, slice_get, Option, None, if◌then◌else◌}
use Rattle.shq_meaning.specs.Concept.{Concept}
use Rattle.shq_meaning.specs.Axiom.{Axiom}
use Rattle.shq_meaning.specs.Axiom.TheVariants.{SubClassOf, EquivalentClasses, DisjointClasses, DisjointUnion, SubRole}
use Rattle.shq_meaning.specs.Axiom.TheVariants.{EquivalentRoles, Domain, Range, Functional, Transitive, Member, Pair}
use Rattle.shq_meaning.specs.Axiom.TheVariants.{SameAll, Different}
use Rattle.calculus_specs.specs.Normal.{normal_form}
use Rattle.calculus_specs.specs.declared.facts.Fact.{Fact}
use Rattle.calculus_specs.specs.declared.facts.Fact.TheVariants.{Has, Edge, Apart, Same}

-- each individual is the same as the next one
abbrev pub same_facts : List ℕ → List (Fact Concept)
same_facts [] = []
same_facts (a ∷ []) = []
same_facts (a ∷ b ∷ bs) = Same a b ∷ same_facts (b ∷ bs)

-- each individual is apart from each that stands after it
abbrev pub apart_facts : List ℕ → List (Fact Concept)
apart_facts [] = []
apart_facts (a ∷ as_) = map (Apart a) as_ ++ apart_facts as_

-- axioms of classes and roles have none
abbrev pub facts_of : Axiom → List (Fact Concept)
facts_of (SubClassOf c d) = []
facts_of (EquivalentClasses cs) = []
facts_of (DisjointClasses cs) = []
facts_of (DisjointUnion c cs) = []
facts_of (SubRole r s) = []
facts_of (EquivalentRoles rs) = []
facts_of (Domain r c) = []
facts_of (Range r c) = []
facts_of (Functional r) = []
facts_of (Transitive r) = []
facts_of (Member c a) = Has a (normal_form c) ∷ []
facts_of (Pair r a b) = Edge r a b ∷ []
facts_of (SameAll as_) = same_facts as_
facts_of (Different as_) = apart_facts as_

-- the fact at a place of a list, from 1; none stands at the place 0
abbrev pub nth_fact : List (Fact Concept) → ℕ → Option (Fact Concept)
nth_fact fs place = if place == 0 then None else slice_get fs (place - 1)

-- the fact of an axiom at a place
abbrev pub fact_at : Axiom → ℕ → Option (Fact Concept)
fact_at a place = nth_fact (facts_of a) place
