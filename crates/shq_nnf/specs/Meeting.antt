-- What it is that a finite interpretation meets a part of an axiom, and that a fact is true in it.
use Rattle.std.specs.Prelude.{ℕ, ◌-◌, Bool, true, false, not, eqb, List, Option, Some, None, slice_get}
use Rattle.std.specs.List.{list_all}
use Rattle.shq_meaning.specs.Axiom.{Axiom}
use Rattle.shq_meaning.specs.Numbered.{Numbered}
use Rattle.shq_meaning.specs.Axiom.TheVariants.{SubClassOf, EquivalentClasses, DisjointClasses, DisjointUnion, SubRole}
use Rattle.shq_meaning.specs.Axiom.TheVariants.{EquivalentRoles, Domain, Range, Functional, Transitive, Member, Pair}
use Rattle.shq_meaning.specs.Axiom.TheVariants.{SameAll, Different}
use Rattle.shq_meaning.specs.Concept.{Concept}
use Rattle.calculus_specs.specs.Rows.{Part, inclusion, range}
use Rattle.calculus_specs.specs.declared.facts.Fact.{Fact}
use Rattle.calculus_specs.specs.declared.facts.Fact.TheVariants.{Has, Edge, Apart, Same}
use Rattle.shq_meaning.specs.Below.{all_below}
use Rattle.shq_meaning.specs.Truth.{Interpretation, implies, holds}

-- an inclusion: each element that is in all conjuncts is in the right side; a range: each element to which a pair of
-- the role leads is in the class
abbrev pub meets_part : Interpretation → Part → Bool
meets_part i (inclusion cs d) = all_below i.size (λ x. implies (list_all (λ c. holds i c x) cs) (holds i d x))
meets_part i (range r d) = all_below i.size (λ x. all_below i.size (λ y. implies (i.in_role r x y) (holds i d y)))

-- the interpretation meets each of the parts
abbrev pub meets_parts : Interpretation → List Part → Bool
meets_parts i ps = list_all (meets_part i) ps

-- whether the fact is true where each node stands for the element at its place
abbrev pub is_true : Interpretation → (ℕ → ℕ) → Fact Concept → Bool
is_true i place (Has x c) = holds i c (place x)
is_true i place (Edge r x y) = i.in_role r (place x) (place y)
is_true i place (Apart x y) = not (eqb (place x) (place y))
is_true i place (Same x y) = eqb (place x) (place y)

-- whether the axiom says something of roles alone
abbrev pub is_role_axiom : Axiom → Bool
is_role_axiom (SubClassOf c d) = false
is_role_axiom (EquivalentClasses cs) = false
is_role_axiom (DisjointClasses cs) = false
is_role_axiom (DisjointUnion c cs) = false
is_role_axiom (SubRole r s) = true
is_role_axiom (EquivalentRoles rs) = true
is_role_axiom (Domain r c) = false
is_role_axiom (Range r c) = false
is_role_axiom (Functional r) = false
is_role_axiom (Transitive r) = true
is_role_axiom (Member c a) = false
is_role_axiom (Pair r a b) = false
is_role_axiom (SameAll as_) = false
is_role_axiom (Different as_) = false

-- there is an axiom, and it is one of roles
abbrev pub says_of_roles : Option Numbered → Bool
says_of_roles None = false
says_of_roles (Some n) = is_role_axiom n.axiom

-- whether the axiom of this number, from 1, is a role axiom
abbrev pub is_role_number : List Numbered → ℕ → Bool
is_role_number axioms k = says_of_roles (slice_get axioms (k - 1))

-- whether the axiom says something of individuals
abbrev pub is_assertion : Axiom → Bool
is_assertion (SubClassOf c d) = false
is_assertion (EquivalentClasses cs) = false
is_assertion (DisjointClasses cs) = false
is_assertion (DisjointUnion c cs) = false
is_assertion (SubRole r s) = false
is_assertion (EquivalentRoles rs) = false
is_assertion (Domain r c) = false
is_assertion (Range r c) = false
is_assertion (Functional r) = false
is_assertion (Transitive r) = false
is_assertion (Member c a) = true
is_assertion (Pair r a b) = true
is_assertion (SameAll as_) = true
is_assertion (Different as_) = true

-- the interpretation, but for its individuals, which are other numbers
abbrev pub placed_elsewhere : Interpretation → (ℕ → ℕ) → Interpretation
placed_elsewhere i place = record i { individual = place }
