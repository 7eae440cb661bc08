-- The closure of what is in question: the concepts that a search may give to its nodes.
use Rattle.std.specs.Prelude.{◌≡◌, ℕ, ◌+◌, ◌*◌, ◌^◌, true, max, List, [], ◌∷◌, length, Some, Contains}
use Rattle.std.specs.List.{list_any, IsDistinct}
use Rattle.shq_terms.specs.Concept.{Concept, top, intersection, union, some_of, all_of, at_least, at_most, Parts}
use Rattle.shq_terms.specs.Concept.{part_list}
use Rattle.calculus_specs.specs.Normal.{normal_form, negated_form}
use Rattle.calculus_specs.specs.Same.{is_same}
use Rattle.calculus_specs.specs.Rows.{NumberedPart, are_name_positions, row_concept}
use Rattle.calculus_specs.specs.Rows.Part.{inclusion, range}
use Rattle.calculus_specs.specs.declared.facts.Fact.TheVariants.{Has}
use Rattle.calculus_specs.specs.Rules.{Question}

-- the concept is one in question, or of a row or a range of the axioms, or of a fact that an axiom gives, or a rule
-- gives it from one that is in the closure
pub data IsInClosure (q : Question) : Concept → Type 0 where
  has_top : IsInClosure q top
  has_sub : IsInClosure q (normal_form q.sub)
  has_not_sup : IsInClosure q (negated_form q.sup)
  -- the row concepts of each inclusion, for all positions of names
  has_row : (n : NumberedPart) (cs : List Concept) (d : Concept) (positions : List ℕ) → Contains q.theory.parts n
      → n.part ≡ inclusion cs d → are_name_positions cs positions ≡ true
      → IsInClosure q (row_concept cs d positions)
  has_range : (n : NumberedPart) (r : ℕ) (d : Concept) → Contains q.theory.parts n → n.part ≡ range r d
      → IsInClosure q d
  has_member : (a p x : ℕ) (c : Concept) → q.fact_of a p ≡ Some (Has x c) → IsInClosure q c
  has_conjunct : (cs : Parts) (c : Concept) → IsInClosure q (intersection cs) → Contains (part_list cs) c
      → IsInClosure q c
  has_disjunct : (cs : Parts) (c : Concept) → IsInClosure q (union cs) → Contains (part_list cs) c → IsInClosure q c
  has_some : (r : ℕ) (c : Concept) → IsInClosure q (some_of r c) → IsInClosure q c
  has_all : (r : ℕ) (c : Concept) → IsInClosure q (all_of r c) → IsInClosure q c
  has_least : (n r : ℕ) (c : Concept) → IsInClosure q (at_least n r c) → IsInClosure q c
  has_most : (n r : ℕ) (c : Concept) → IsInClosure q (at_most n r c) → IsInClosure q c
  -- the complement of what is counted, which a search may choose
  has_other : (n r : ℕ) (c : Concept) → IsInClosure q (at_most n r c) → IsInClosure q (negated_form c)
  -- what a transitive role hands on
  has_carried : (s t : ℕ) (c : Concept) → IsInClosure q (all_of s c) → q.theory.is_transitive t ≡ true
      → IsInClosure q (all_of t c)

-- the list has each concept of the closure, once, and no other
pub record IsClosure (q : Question) (cs : List Concept) : Type 0 where
  pub has_each : (c : Concept) → IsInClosure q c → list_any (is_same c) cs ≡ true
  pub has_only : (c : Concept) → list_any (is_same c) cs ≡ true → IsInClosure q c
  pub are_different : IsDistinct is_same cs

-- ---- the numbers of the bounds

-- how many nodes a concept asks for at once
abbrev pub asked_by : Concept → ℕ
asked_by (at_least n r c) = n
asked_by _ = 1

-- how many alternatives a choice on the concept has
abbrev pub choices_of : Concept → ℕ
choices_of (union ps) = length (part_list ps)
choices_of _ = 2

-- the greatest number of an 'at least'; 1 where there is none
abbrev pub most_made : List Concept → ℕ
most_made [] = 1
most_made (c ∷ cs) = max (asked_by c) (most_made cs)

-- the greatest number of parts of a union; 2 where there is none
abbrev pub most_parts : List Concept → ℕ
most_parts [] = 2
most_parts (c ∷ cs) = max (choices_of c) (most_parts cs)

-- a tree of a trail has at most so many nodes, where the closure has c concepts and a step makes at most g nodes; where
-- node 0 is the only first node, the trail is one tree
abbrev pub node_bound : ℕ → ℕ → ℕ
node_bound c g = (c * g + 1) ^ (2 ^ c + 2)

-- a search takes at most so many steps, where a choice has at most b alternatives and a trail at most m nodes
abbrev pub steps_below : ℕ → ℕ → ℕ → ℕ
steps_below b m c = (b + 1) ^ (m * (m + c + 2))

-- a bound of the steps of a search, by the concepts of its closure
abbrev pub step_bound : List Concept → ℕ
step_bound cs = steps_below (most_parts cs) (node_bound (length cs) (most_made cs)) (length cs)

-- each first node is the root of a tree: a trail has at most so many nodes, where there are so many first nodes
abbrev pub nodes_of : ℕ → List Concept → ℕ
nodes_of first cs = first * node_bound (length cs) (most_made cs)

-- a search takes at most so many steps, where there are so many first nodes and given facts
abbrev pub steps_of : ℕ → ℕ → List Concept → ℕ
steps_of first facts cs =
    (most_parts cs + 1) ^ (nodes_of first cs * (nodes_of first cs + length cs + 2) + facts)
