-- What class expressions, axioms and queries mean in a finite interpretation: OWL 2 Direct Semantics (Second Edition),
-- section 2, over the numbers below a size as the domain.
use Rattle.std.specs.Prelude.{ℕ, ◌<◌, ◌≤◌, Bool, true, false, not, ◌&&◌, ◌||◌, eqb, leb, nat_le, count_by, IsTrue}
use Rattle.std.specs.Prelude.{IsFalse, List, [], ◌∷◌, slice_index}
use Rattle.std.specs.List.{list_all}
use Rattle.shq_terms.specs.Concept.{Concept, top, bottom, name, complement, intersection, union, some_of, all_of}
use Rattle.shq_terms.specs.Concept.{at_least, at_most, exactly, Parts, no_parts, part, parts_of}
use Rattle.shq_terms.specs.declared.axioms.Axiom.{Axiom}
use Rattle.shq_terms.specs.declared.axioms.Axiom.TheVariants.{SubClassOf, EquivalentClasses, DisjointClasses}
use Rattle.shq_terms.specs.declared.axioms.Axiom.TheVariants.{DisjointUnion, SubRole, EquivalentRoles, Domain, Range}
use Rattle.shq_terms.specs.declared.axioms.Axiom.TheVariants.{Functional, Transitive, Member, Pair, SameAll, Different}
use Rattle.shq_terms.specs.declared.axioms.On.{On}
use Rattle.shq_terms.specs.declared.axioms.On.TheVariants.{Any, Individual}
use Rattle.shq_terms.specs.declared.axioms.Query.{Query}
use Rattle.shq_meaning.specs.Below.{all_below, count_below}

-- section 2.2: the domain is the numbers below size; classes are sets of them, roles sets of pairs, and individuals are
-- elements
pub record Interpretation : Type 0 where
  pub size : ℕ
  pub in_class : ℕ → ℕ → Bool
  pub in_role : ℕ → ℕ → ℕ → Bool
  pub individual : ℕ → ℕ

-- each individual is an element of the domain
abbrev pub PlacesIndividuals : Interpretation → Type 0
PlacesIndividuals i = (a : ℕ) → i.individual a < i.size

-- where the first is so, the second is
abbrev pub implies : Bool → Bool → Bool
implies a b = not a || b

-- both are so, or neither
abbrev pub same : Bool → Bool → Bool
same a b = implies a b && implies b a

-- how many elements y with (x, y) in the role pass the test
abbrev pub successors : Interpretation → ℕ → (ℕ → Bool) → ℕ → ℕ
successors i r p x = count_below i.size (λ y. i.in_role r x y && p y)

-- each y with (x, y) in the role passes the test
abbrev pub each_successor : Interpretation → ℕ → (ℕ → Bool) → ℕ → Bool
each_successor i r p x = all_below i.size (λ y. implies (i.in_role r x y) (p y))

-- section 2.2.3: the element x is in the class expression
abbrev mutual
  pub holds : Interpretation → Concept → ℕ → Bool
  holds i top x = true
  holds i bottom x = false
  holds i (name a) x = i.in_class a x
  holds i (complement c) x = not (holds i c x)
  holds i (intersection cs) x = hold_all i cs x
  holds i (union cs) x = hold_any i cs x
  holds i (some_of r c) x = leb 1 (successors i r (holds i c) x)
  holds i (all_of r c) x = each_successor i r (holds i c) x
  holds i (at_least n r c) x = leb n (successors i r (holds i c) x)
  holds i (at_most n r c) x = leb (successors i r (holds i c) x) n
  holds i (exactly n r c) x = eqb (successors i r (holds i c) x) n

  pub hold_all : Interpretation → Parts → ℕ → Bool
  hold_all i no_parts x = true
  hold_all i (part c cs) x = holds i c x && hold_all i cs x

  pub hold_any : Interpretation → Parts → ℕ → Bool
  hold_any i no_parts x = false
  hold_any i (part c cs) x = holds i c x || hold_any i cs x

-- the element has the same truth in all class expressions
abbrev pub all_same : Interpretation → List Concept → ℕ → Bool
all_same i cs x = implies (hold_any i (parts_of cs) x) (hold_all i (parts_of cs) x)

-- the element is in the class expressions of at most one place
abbrev pub none_twice : Interpretation → List Concept → ℕ → Bool
none_twice i cs x = nat_le (count_by (λ c. holds i c x) cs) 1

-- each pair of the one role is one of the other
abbrev pub included : Interpretation → ℕ → ℕ → Bool
included i r s = all_below i.size (λ x. all_below i.size (λ y. implies (i.in_role r x y) (i.in_role s x y)))

-- each of the roles has the pairs of the first
abbrev pub roles_equal : Interpretation → List ℕ → Bool
roles_equal i rs = list_all (λ s. included i (slice_index rs 0) s && included i s (slice_index rs 0)) rs

-- how many successors an element has in a role
abbrev pub out_degree : Interpretation → ℕ → ℕ → ℕ
out_degree i r x = count_below i.size (λ y. i.in_role r x y)

-- all of the individuals are the same element
abbrev pub are_same : Interpretation → List ℕ → Bool
are_same i as_ = list_all (λ a. eqb (i.individual a) (i.individual (slice_index as_ 0))) as_

-- the individual is none of these
abbrev pub differs_from_all : Interpretation → ℕ → List ℕ → Bool
differs_from_all i a as_ = list_all (λ b. not (eqb (i.individual a) (i.individual b))) as_

-- the individuals at two different places are different elements
abbrev pub are_different : Interpretation → List ℕ → Bool
are_different i [] = true
are_different i (a ∷ as_) = differs_from_all i a as_ && are_different i as_

-- the interpretation meets the axiom: the class axioms of section 2.3.1, the role axioms of section 2.3.2, and the
-- assertions of section 2.3.6
abbrev pub meets : Interpretation → Axiom → Bool
meets i (SubClassOf c d) = all_below i.size (λ x. implies (holds i c x) (holds i d x))
meets i (EquivalentClasses cs) = all_below i.size (λ x. all_same i cs x)
meets i (DisjointClasses cs) = all_below i.size (λ x. none_twice i cs x)
meets i (DisjointUnion a cs) =
    all_below i.size (λ x. same (holds i a x) (hold_any i (parts_of cs) x) && none_twice i cs x)
meets i (SubRole r s) = included i r s
meets i (EquivalentRoles rs) = roles_equal i rs
meets i (Domain r c) = all_below i.size (λ x. implies (nat_le 1 (out_degree i r x)) (holds i c x))
meets i (Range r c) = all_below i.size (λ x. each_successor i r (holds i c) x)
meets i (Functional r) = all_below i.size (λ x. nat_le (out_degree i r x) 1)
meets i (Transitive r) =
    all_below i.size
    (λ x. all_below i.size
    (λ y. implies (i.in_role r x y) (all_below i.size (λ z. implies (i.in_role r y z) (i.in_role r x z)))))
meets i (Member c a) = holds i c (i.individual a)
meets i (Pair r a b) = i.in_role r (i.individual a) (i.individual b)
meets i (SameAll as_) = are_same i as_
meets i (Different as_) = are_different i as_

-- section 2.4: the interpretation meets all of the axioms
abbrev pub meets_all : Interpretation → List Axiom → Bool
meets_all i as_ = list_all (meets i) as_

-- the query speaks of the element
abbrev pub is_asked_at : Interpretation → On → ℕ → Bool
is_asked_at i Any x = true
is_asked_at i (Individual a) x = eqb x (i.individual a)

-- the element is a counter-example to the query
abbrev pub refutes_at : Interpretation → Query → ℕ → Bool
refutes_at i q x = is_asked_at i q.on x && (holds i q.sub x && not (holds i q.sup x))

-- section 2.5: in every finite interpretation of at least one element, with the individuals among them, that meets the
-- axioms, no element is a counter-example to the query
abbrev pub Entails : List Axiom → Query → Type 0
Entails as_ q =
    (i : Interpretation) → 1 ≤ i.size → PlacesIndividuals i → IsTrue (meets_all i as_) → (x : ℕ) → x < i.size
    → IsFalse (refutes_at i q x)
