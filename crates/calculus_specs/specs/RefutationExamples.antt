-- Worked examples. Class names are numbers from 10. Role 1 is below role 0, which is transitive.
use Rattle.std.specs.Prelude.{◌≡◌, ◌==◌, ◌||◌, ◌&&◌, List, [], ◌∷◌, ◌++◌, Option, Some, None, if◌then◌else◌, refl}
use Rattle.shq_base.specs.Concept.{Concept, top, bottom, name, complement, intersection, union, some_of, all_of}
use Rattle.shq_base.specs.Concept.{at_least, at_most, parts_of}
use Rattle.calculus_specs.specs.Shape.{Shape}
use Rattle.calculus_specs.specs.Shape.Shape.{name as name_shape, not_name, intersection as and_shape}
use Rattle.calculus_specs.specs.Shape.Shape.{union as union_shape, some_of as some_shape, all_of as all_shape}
use Rattle.calculus_specs.specs.Shape.Shape.{at_least as least_shape, at_most as most_shape}
use Rattle.calculus_specs.specs.Rows.{Theory, inclusion_of, range_of}
use Rattle.calculus_specs.specs.declared.facts.Fact.{Fact}
use Rattle.calculus_specs.specs.declared.facts.Fact.TheVariants.{Has, Edge, Apart, Same}
use Rattle.calculus_specs.specs.Line.{Line, node, no_trees, tree}
use Rattle.calculus_specs.specs.Line.Line.{start_line, and_line, or_line, all_line, carry_line, row_line, range_line}
use Rattle.calculus_specs.specs.Line.Line.{some_line, least_line, choose_line, pair_line, bottom_line, clash_line}
use Rattle.calculus_specs.specs.Line.Line.{most_line, fact_line, differ_line}
use Rattle.calculus_specs.specs.Rules.{Question, on_any, Known, nothing_known}
use Rattle.calculus_specs.specs.Valid.{concept_at, open_after, open_after_all, IsRefutation}

abbrev a : Concept
a = name 10

abbrev b : Concept
b = name 11

abbrev c : Concept
c = name 12

abbrev both : Concept → Concept → Concept
both d e = intersection (parts_of (d ∷ e ∷ []))

-- axiom 1: what is in a and in c is in b; axiom 2: what is at the end of an edge of role 0 is in b
abbrev theory : Theory
theory = record {
  parts = record { axiom_number = 1; part_number = 1; part = inclusion_of (both a c) b }
      ∷ record { axiom_number = 2; part_number = 1; part = range_of 0 b }
      ∷ [];
  below = λ r s. r == s || (r == 1 && s == 0);
  is_transitive = λ r. r == 0;
}

-- the shapes from 1 on: a, b, not a, 'some 1 a', 'all 0 b', 'at least 3 1 a', 'at most 2 0 a', 'at most 1 0 a',
-- 'a or b', c, 'a and c', 'at least 3 1 a and at most 2 0 a'
abbrev shapes : List Shape
shapes =
    name_shape 10 ∷ name_shape 11 ∷ not_name 10 ∷ some_shape 1 1 ∷ all_shape 0 2 ∷ least_shape 3 1 1 ∷ most_shape 2 0 1
    ∷ most_shape 1 0 1 ∷ union_shape (1 ∷ 2 ∷ []) ∷ name_shape 12 ∷ and_shape (1 ∷ 10 ∷ []) ∷ and_shape (6 ∷ 7 ∷ [])
    ∷ []

-- what lines leave open of a refutation that `sub` is in `sup`
abbrev left_open : Concept → Concept → List Line → Option (List Known)
left_open sub sup lines = open_after_all (on_any theory sub sup) (concept_at shapes) (nothing_known ∷ []) lines

-- what a line leaves open of a branch that knows nodes 0 to 2 and these facts
abbrev left_at : List (Fact Concept) → Line → Option (List Known)
left_at facts line =
    open_after (on_any theory a b) (concept_at shapes) (record { nodes = 0 ∷ 1 ∷ 2 ∷ []; facts = facts } ∷ []) line

abbrev known_with : List (Fact Concept) → Known
known_with facts = record { nodes = 0 ∷ 1 ∷ 2 ∷ []; facts = facts }

-- ---- whole refutations

-- what is in 'a and c' is in b: the row on both names needs a and c by themselves
abbrev by_a_row : List Line
by_a_row = start_line ∷ and_line 0 11 ∷ row_line 0 1 1 (1 ∷ 2 ∷ []) ∷ clash_line 0 2 ∷ []

pub row_refutes : IsRefutation (on_any theory (both a c) b) shapes by_a_row
row_refutes = record {
  tree =
      node start_line
      (tree (node (and_line 0 11)
      (tree (node (row_line 0 1 1 (1 ∷ 2 ∷ [])) (tree (node (clash_line 0 2) no_trees) no_trees)) no_trees))
      no_trees);
  in_preorder = refl;
  is_shut = (((tt, tt), tt), tt);
}

-- without the intersection opened the node has neither name
pub row_too_early : left_open (both a c) b (start_line ∷ row_line 0 1 1 (1 ∷ 2 ∷ []) ∷ []) ≡ None
row_too_early = refl

-- a line after all branches are closed, a second `start`, and no `start`
pub left_over : left_open (both a c) b (by_a_row ++ clash_line 0 2 ∷ []) ≡ None
left_over = refl

pub second_start : left_open a b (start_line ∷ start_line ∷ []) ≡ None
second_start = refl

pub not_started : left_open a b (bottom_line 0 ∷ []) ≡ None
not_started = refl

-- three successors by a role below 0 are more than two
abbrev three_and_two : Concept
three_and_two = both (at_least 3 1 a) (at_most 2 0 a)

pub counted : left_open three_and_two bottom
    (start_line ∷ and_line 0 12 ∷ least_line 0 4 6 ∷ most_line 0 7 (4 ∷ 6 ∷ 5 ∷ []) ∷ [])
    ≡ Some []
counted = refl

-- not where one is counted twice, or where there are only as many as may be
pub counted_twice : left_open three_and_two bottom
    (start_line ∷ and_line 0 12 ∷ least_line 0 4 6 ∷ most_line 0 7 (4 ∷ 5 ∷ 5 ∷ []) ∷ [])
    ≡ None
counted_twice = refl

pub counted_two : left_open three_and_two bottom
    (start_line ∷ and_line 0 12 ∷ least_line 0 4 6 ∷ most_line 0 7 (4 ∷ 5 ∷ []) ∷ [])
    ≡ None
counted_two = refl

-- ---- single lines

-- a new node is not one that is known
pub some_new : left_at (Has 0 (some_of 1 a) ∷ []) (some_line 0 3 4)
    ≡ Some (record { nodes = 0 ∷ 1 ∷ 2 ∷ 3 ∷ []; facts = Has 0 (some_of 1 a) ∷ Edge 1 0 3 ∷ Has 3 a ∷ [] } ∷ [])
some_new = refl

pub some_known : left_at (Has 0 (some_of 1 a) ∷ []) (some_line 0 2 4) ≡ None
some_known = refl

pub least_known : left_at (Has 0 (at_least 3 1 a) ∷ []) (least_line 0 2 6) ≡ None
least_known = refl

-- an edge of role 1 serves for role 0 above it
pub all_below : left_at (Has 0 (all_of 0 b) ∷ Edge 1 0 2 ∷ []) (all_line 0 2 5)
    ≡ Some (known_with (Has 0 (all_of 0 b) ∷ Edge 1 0 2 ∷ Has 2 b ∷ []) ∷ [])
all_below = refl

pub all_elsewhere : left_at (Has 0 (all_of 0 b) ∷ Edge 1 1 2 ∷ []) (all_line 0 2 5) ≡ None
all_elsewhere = refl

-- 'all' goes on along a transitive role, and along no other
pub carried : left_at (Has 0 (all_of 0 b) ∷ Edge 1 0 2 ∷ []) (carry_line 0 2 0 5)
    ≡ Some (known_with (Has 0 (all_of 0 b) ∷ Edge 1 0 2 ∷ Has 2 (all_of 0 b) ∷ []) ∷ [])
carried = refl

pub not_carried : left_at (Has 0 (all_of 0 b) ∷ Edge 1 0 2 ∷ []) (carry_line 0 2 1 5) ≡ None
not_carried = refl

-- the end of an edge is in the range
pub ranged : left_at (Edge 1 0 2 ∷ []) (range_line 0 2 2) ≡ Some (known_with (Edge 1 0 2 ∷ Has 2 b ∷ []) ∷ [])
ranged = refl

pub no_range : left_at (Edge 1 0 2 ∷ []) (range_line 0 2 1) ≡ None
no_range = refl

-- branches in order
pub branched : left_at (Has 1 (union (parts_of (a ∷ b ∷ []))) ∷ []) (or_line 1 9)
    ≡ Some (known_with (Has 1 (union (parts_of (a ∷ b ∷ []))) ∷ Has 1 a ∷ [])
    ∷ known_with (Has 1 (union (parts_of (a ∷ b ∷ []))) ∷ Has 1 b ∷ []) ∷ [])
branched = refl

pub chosen : left_at [] (choose_line 2 4)
    ≡ Some (known_with (Has 2 (some_of 1 a) ∷ []) ∷ known_with (Has 2 (all_of 1 (complement a)) ∷ []) ∷ [])
chosen = refl

pub paired : left_at [] (pair_line 1 2) ≡ Some (known_with (Same 1 2 ∷ []) ∷ known_with (Apart 1 2 ∷ []) ∷ [])
paired = refl

pub unknown_node : left_at [] (pair_line 1 3) ≡ None
unknown_node = refl

-- what one of two joined nodes has clashes with what the other has
pub joined_clash : left_at (Has 1 a ∷ Has 2 (complement a) ∷ Same 1 2 ∷ []) (clash_line 2 1) ≡ Some []
joined_clash = refl

pub no_clash : left_at (Has 1 a ∷ Has 2 (complement a) ∷ []) (clash_line 2 1) ≡ None
no_clash = refl

-- a number without a concept
pub no_concept : left_at [] (choose_line 2 0) ≡ None
no_concept = refl

pub no_such_concept : left_at [] (choose_line 2 13) ≡ None
no_such_concept = refl

-- ---- individuals

-- axiom 3 says that individual 0 is different from itself, and axiom 4 that it has an edge to individual 1; in question
-- is whether individual 0 is in b. Node 2 is the one without a name.
abbrev asserted : Question
asserted = record {
  theory = theory;
  sub = top;
  sup = b;
  first = 3;
  at = 0;
  fact_of = λ x p.
      if x == 3 && p == 1 then Some (Apart 0 0) else (if x == 4 && p == 1 then Some (Edge 1 0 1) else None);
}

-- and the same of an individual that is not listed
abbrev unlisted : Question
unlisted = record { theory = theory; sub = top; sup = b; first = 3; at = 3; fact_of = asserted.fact_of }

abbrev asserted_open : List Line → Option (List Known)
asserted_open lines = open_after_all asserted (concept_at shapes) (nothing_known ∷ []) lines

-- `start` knows every first node
pub first_nodes : asserted_open (start_line ∷ [])
    ≡ Some (record { nodes = 0 ∷ 1 ∷ 2 ∷ []; facts = Has 0 top ∷ Has 0 (complement b) ∷ [] } ∷ [])
first_nodes = refl

pub started_without_node : open_after_all unlisted (concept_at shapes) (nothing_known ∷ []) (start_line ∷ []) ≡ None
started_without_node = refl

-- the end of a given edge is in the range, which clashes at the node in question alone
pub given_edge : asserted_open (start_line ∷ fact_line 4 1 ∷ range_line 0 1 2 ∷ [])
    ≡ Some
    (record { nodes = 0 ∷ 1 ∷ 2 ∷ []; facts = Has 0 top ∷ Has 0 (complement b) ∷ Edge 1 0 1 ∷ Has 1 b ∷ [] } ∷ [])
given_edge = refl

pub given_edge_elsewhere : asserted_open (start_line ∷ fact_line 4 1 ∷ range_line 0 1 2 ∷ clash_line 1 2 ∷ []) ≡ None
given_edge_elsewhere = refl

-- no node differs from itself
pub differing : asserted_open (start_line ∷ fact_line 3 1 ∷ differ_line 0 0 ∷ []) ≡ Some []
differing = refl

pub not_differing : asserted_open (start_line ∷ fact_line 3 1 ∷ differ_line 0 1 ∷ []) ≡ None
not_differing = refl

-- nodes that are joined are one, and nodes that are apart need not be
pub joined_differ : left_at (Apart 1 2 ∷ Same 2 0 ∷ Same 0 1 ∷ []) (differ_line 2 1) ≡ Some []
joined_differ = refl

pub apart_alone : left_at (Apart 1 2 ∷ []) (differ_line 1 2) ≡ None
apart_alone = refl

pub joined_alone : left_at (Same 1 2 ∷ []) (differ_line 1 2) ≡ None
joined_alone = refl

pub unknown_differ : left_at (Apart 3 3 ∷ []) (differ_line 3 3) ≡ None
unknown_differ = refl

-- a fact has its place in its axiom, and none stands before `start`
pub no_such_fact : asserted_open (start_line ∷ fact_line 3 2 ∷ []) ≡ None
no_such_fact = refl

pub not_yet_started : asserted_open (fact_line 3 1 ∷ []) ≡ None
not_yet_started = refl

-- without individuals there is no fact
pub no_facts : left_open top b (start_line ∷ fact_line 1 1 ∷ []) ≡ None
no_facts = refl
