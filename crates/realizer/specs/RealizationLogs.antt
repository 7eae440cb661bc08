-- Honest logs of the questions on individuals: which are in a class expression, and which classes each is in.
use Rattle.std.specs.Prelude.{◌≡◌, ℕ, ◌<◌, List, take, Some, slice_get, length, All}
use Rattle.axiom_sets.specs.Sets.{Limited}
use Rattle.shq_terms.specs.Concept.{Concept, top, name}
use Rattle.shq_terms.specs.Listed.{Listed}
use Rattle.shq_terms.specs.declared.axioms.On.{On}
use Rattle.shq_terms.specs.declared.axioms.On.TheVariants.{Any, Individual}
use Rattle.shq_terms.specs.declared.axioms.Query.{Query}
use Rattle.subsumption.specs.Entry.{Entry}
use Rattle.subsumption.specs.Entry.TheVariants.{Test, Node}
use Rattle.subsumption.specs.TestEnd.{TestEnd}
use Rattle.subsumption.specs.HonestLog.{IsWhole, IsClass, IsHonestWithin, AsksNothingTwice}
use Rattle.realizer.specs.Instances.{instance_query}
use Rattle.realizer.specs.Places.{IsPlaceChain, left_side, right_side}

-- ---- which individuals are in a class expression

-- the entry tests, by all axioms, whether some listed individual is in the class expression
abbrev pub IsInstanceTest : Listed → Concept → Entry → Type 0
IsInstanceTest o c (Test s q steps e) = IsWhole o s × ((a : ℕ) × (a < length o.individuals) × (q ≡ instance_query c a))
IsInstanceTest o c (Node s) = ⊥

-- each entry is a test whether an individual is in the class expression
abbrev pub AreInstanceTests : Listed → Concept → List Entry → Type 0
AreInstanceTests o c log = All (IsInstanceTest o c) log

-- there are such tests alone, at most one of each individual, since the query of an individual is tested once
pub record IsInstancesLog (o : Listed) (c : Concept) (budget : ℕ) (log : List Entry) : Type 0 where
  pub budget_kept : IsHonestWithin o budget log
  pub tests : AreInstanceTests o c log
  pub once : AsksNothingTwice log

-- ---- which classes each individual is in

-- a class of the ontology
abbrev pub IsListedClass : Listed → Concept → Type 0
IsListedClass o (name x) = x < length o.classes
IsListedClass o _ = ⊥

-- a query is of one of two kinds: of all elements, between classes of the ontology, that of all things or that of none;
-- or of a listed individual, whether it is in a listed class
abbrev pub IsTypingQuery : Listed → Concept → Concept → On → Type 0
IsTypingQuery o sub sup Any = IsClass o sub × IsClass o sup
IsTypingQuery o sub sup (Individual a) = (a < length o.individuals) × (sub ≡ top) × IsListedClass o sup

-- the entry tests such a query by all axioms
abbrev pub IsTypingTest : Listed → Entry → Type 0
IsTypingTest o (Test s q steps e) = IsWhole o s × IsTypingQuery o q.sub q.sup q.on
IsTypingTest o (Node s) = ⊥

-- each entry is a test that a realization makes
abbrev pub AreTypingTests : Listed → List Entry → Type 0
AreTypingTests o log = All (IsTypingTest o) log

-- no query is tested that earlier tests answer with yes: no chain of them leads from its left side to its right side
abbrev pub AsksNoPlaceChain : List Entry → Type 0
AsksNoPlaceChain log = (place : ℕ) (s : Limited) (q : Query) (steps : ℕ) (e : TestEnd)
    → slice_get log place ≡ Some (Test s q steps e) → ¬ IsPlaceChain (take place log) (left_side q) (right_side q)

-- an honest log of a realization: it keeps the budget, and asks nothing twice or for nothing
pub record IsRealizationLog (o : Listed) (budget : ℕ) (log : List Entry) : Type 0 where
  pub budget_kept : IsHonestWithin o budget log
  pub tests : AreTypingTests o log
  pub once : AsksNothingTwice log
  pub new : AsksNoPlaceChain log
