-- Small interpretations, axioms and queries, whose meaning is worked out by hand.
use Rattle.std.specs.Prelude.{ℕ, ◌&&◌, ◌||◌, eqb, leb, cond, [], ◌∷◌}
use Rattle.shq_terms.specs.Concept.{Concept, top, bottom, name, complement, at_least}
use Rattle.shq_terms.specs.declared.axioms.Axiom.{Axiom}
use Rattle.shq_terms.specs.declared.axioms.Axiom.TheVariants.{SubClassOf, EquivalentClasses, DisjointUnion}
use Rattle.shq_terms.specs.declared.axioms.On.TheVariants.{Any, Individual}
use Rattle.shq_terms.specs.declared.axioms.Query.{Query}
use Rattle.shq_meaning.specs.Truth.{Interpretation}

-- no element, or one element, or two: each is in class 0, and is joined by role 0 to each; each individual is the first
abbrev pub complete : ℕ → Interpretation
complete n = record { size = n; in_class = λ a x. eqb a 0; in_role = λ r x y. eqb r 0; individual = λ a. 0 }

-- 0 to 1 and 1 to 2 in role 0; the same and 0 to 2 in role 1; class k holds the element k alone, and class 3 the last
-- two; individuals 0, 1 and 2 are the elements of these numbers, and any other is the element 0
abbrev pub path : Interpretation
path = record {
  size = 3;
  in_class = λ a x. eqb a x || (eqb a 3 && leb 1 x);
  in_role = λ r x y. (eqb x 0 && eqb y 1) || (eqb x 1 && eqb y 2) || (eqb r 1 && eqb x 0 && eqb y 2);
  individual = λ a. cond (leb a 2) a 0;
}

-- class 0 in at least two successors of class 0
abbrev pub two_successors : Axiom
two_successors = SubClassOf (name 0) (at_least 2 0 (name 0))

-- class 3 is the disjoint union of the classes 1 and 2
abbrev pub split : Axiom
split = DisjointUnion (name 3) (name 1 ∷ name 2 ∷ [])

-- class 3 is the disjoint union of the classes 1, 2 and 2 once more
abbrev pub split_twice : Axiom
split_twice = DisjointUnion (name 3) (name 1 ∷ name 2 ∷ name 2 ∷ [])

-- class 0 is what is not in class 3
abbrev pub others : Axiom
others = EquivalentClasses (name 0 ∷ complement (name 3) ∷ [])

-- whether each element is in no class
abbrev pub is_nothing : Concept → Query
is_nothing c = record { sub = c; sup = bottom; on = Any }

-- whether the individual is in the class
abbrev pub is_in : Concept → ℕ → Query
is_in c a = record { sub = top; sup = c; on = Individual a }
