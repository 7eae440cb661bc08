-- What the axioms of some numbers state of individuals.
use Rattle.std.specs.Prelude.{ℕ, ◌+◌, ◌-◌, ◌==◌, ◌||◌, Bool, List, [], ◌∷◌, ◌++◌, Option, None, Some, slice_get}
use Rattle.std.specs.Prelude.{slice_index_or}
use Rattle.refutation_truth.specs.Concept.{Concept}
use Rattle.refutation_truth.specs.Axiom.{Axiom}
use Rattle.refutation_truth.specs.Axiom.TheVariants.{SubClassOf, EquivalentClasses, DisjointClasses, DisjointUnion}
use Rattle.refutation_truth.specs.Axiom.TheVariants.{SubRole}
use Rattle.refutation_truth.specs.Axiom.TheVariants.{EquivalentRoles, Domain, Range, Functional, Transitive, Member}
use Rattle.refutation_truth.specs.Axiom.TheVariants.{Pair}
use Rattle.refutation_truth.specs.Axiom.TheVariants.{SameAll, Different}
use Rattle.refutation_truth.specs.Numbered.{Numbered}
use Rattle.calculus_specs.specs.declared.facts.Fact.{Fact}
use Rattle.calculus_specs.specs.declared.facts.Fact.TheVariants.{Has, Edge, Apart, Same}
use Rattle.refutation_truth.specs.Facts.{same_facts, apart_facts}

-- one fact: the number of its axiom, its place among that axiom's own facts, from 1, and what it says. The concept of a
-- member is the class expression that the axiom names.
pub record Stated : Type 0 where
  pub axiom_number : ℕ
  pub place : ℕ
  pub fact : Fact Concept

-- the facts of an axiom, in order
abbrev pub own_facts : Axiom → List (Fact Concept)
own_facts (SubClassOf c d) = []
own_facts (EquivalentClasses cs) = []
own_facts (DisjointClasses cs) = []
own_facts (DisjointUnion c cs) = []
own_facts (SubRole r s) = []
own_facts (EquivalentRoles rs) = []
own_facts (Domain r c) = []
own_facts (Range r c) = []
own_facts (Functional r) = []
own_facts (Transitive r) = []
own_facts (Member c a) = Has a c ∷ []
own_facts (Pair r a b) = Edge r a b ∷ []
own_facts (SameAll as_) = same_facts as_
own_facts (Different as_) = apart_facts as_

-- those of the axiom of a number, if there is one
abbrev pub own_facts_in : Option Numbered → List (Fact Concept)
own_facts_in None = []
own_facts_in (Some n) = own_facts n.axiom

-- facts of the axiom k, whose places count from `first` on
abbrev pub numbered_facts : ℕ → ℕ → List (Fact Concept) → List Stated
numbered_facts k first [] = []
numbered_facts k first (f ∷ fs) = record { axiom_number = k; place = first; fact = f } ∷ numbered_facts k (first + 1) fs

-- the facts of the axioms of these numbers, in their order
abbrev pub stated_facts : List Numbered → List ℕ → List Stated
stated_facts axioms [] = []
stated_facts axioms (k ∷ ks) = numbered_facts k 1 (own_facts_in (slice_get axioms (k - 1))) ++ stated_facts axioms ks

-- the one at a place, from 0; one that is not there reads as one of no axiom
abbrev pub stated_at : List Stated → ℕ → Stated
stated_at facts place = slice_index_or facts place (record { axiom_number = 0; place = 0; fact = Same 0 0 })

-- the first and the last individual that a fact names
abbrev pub ends_of : Fact Concept → ℕ × ℕ
ends_of (Has x c) = (x, x)
ends_of (Edge r x y) = (x, y)
ends_of (Apart x y) = (x, y)
ends_of (Same x y) = (x, y)

-- whether the fact names the individual
abbrev pub names : ℕ → Fact Concept → Bool
names a f = (ends_of f).0 == a || (ends_of f).1 == a
