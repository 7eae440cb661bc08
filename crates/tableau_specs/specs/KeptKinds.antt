-- Kinds of concepts and of roles that the rules of a search keep: from concepts of the kind they make such concepts
-- alone, and edges by such roles.
use Rattle.std.specs.Prelude.{◌≡◌, ℕ, true, List, Option, Some, Contains}
use Rattle.calculus_specs.specs.Concept.{Concept, top, intersection, union, some_of, all_of, at_least, at_most}
use Rattle.calculus_specs.specs.Concept.{parts_of}
use Rattle.calculus_specs.specs.Normal.{negated_form}
use Rattle.calculus_specs.specs.Rows.{Part, Theory, part_at, row_of, Trigger}
use Rattle.calculus_specs.specs.declared.facts.Fact.{Fact}
use Rattle.calculus_specs.specs.declared.facts.Fact.TheVariants.{Has, Edge}

-- each rule that has a concept of the kind gives concepts of the kind, and edges by the roles; so does each row, and
-- each fact that an axiom gives
pub record IsKept (theory : Theory) (fact_of : ℕ → ℕ → Option (Fact Concept)) (P : Concept → Type 0) (E : ℕ → Type 0) :
    Type 0 where
  pub top_is : P top
  pub conjunct : (cs : List Concept) (c : Concept) → P (intersection (parts_of cs)) → Contains cs c → P c
  pub disjunct : (cs : List Concept) (c : Concept) → P (union (parts_of cs)) → Contains cs c → P c
  pub filler_of_some : (r : ℕ) (c : Concept) → P (some_of r c) → P c
  pub filler_of_all : (r : ℕ) (c : Concept) → P (all_of r c) → P c
  pub filler_of_least : (n r : ℕ) (c : Concept) → P (at_least n r c) → P c
  pub filler_of_most : (n r : ℕ) (c : Concept) → P (at_most n r c) → P c
  pub complement_of_most : (n r : ℕ) (c : Concept) → P (at_most n r c) → P (negated_form c)
  pub carried : (s t : ℕ) (c : Concept) → P (all_of s c) → theory.is_transitive t ≡ true → theory.below t s ≡ true
      → P (all_of t c)
  pub row : (a p : ℕ) (q : Part) (t : Trigger) (c : Concept) → part_at theory a p ≡ Some q → row_of q t ≡ Some c → P c
  pub edge_of_some : (r : ℕ) (c : Concept) → P (some_of r c) → E r
  pub edge_of_least : (n r : ℕ) (c : Concept) → P (at_least n r c) → E r
  pub member : (a p x : ℕ) (c : Concept) → fact_of a p ≡ Some (Has x c) → P c
  pub pair : (a p r x y : ℕ) → fact_of a p ≡ Some (Edge r x y) → E r
