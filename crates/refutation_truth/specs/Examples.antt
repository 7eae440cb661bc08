-- Worked examples. Class names are numbers from 10, roles from 0.
use Rattle.std.specs.Prelude.{◌≡◌, ℕ, true, false, List, [], ◌∷◌, Option, Some, None, refl}
use Rattle.shq_nnf.specs.Concept.{Concept, top, name, complement}
use Rattle.shq_nnf.specs.Axiom.{Axiom}
use Rattle.shq_nnf.specs.Axiom.TheVariants.{SubClassOf, DisjointClasses, SubRole, Transitive, Range, Member, SameAll}
use Rattle.shq_nnf.specs.Axiom.TheVariants.{Different}
use Rattle.shq_nnf.specs.Numbered.{Numbered}
use Rattle.role_box.specs.On.{On}
use Rattle.role_box.specs.On.TheVariants.{Any, Individual}
use Rattle.role_box.specs.Query.{Query}
use Rattle.role_box.specs.Normal.{normal_form, negated_form}
use Rattle.role_box.specs.Fact.TheVariants.{Has}
use Rattle.role_box.specs.Shape.{Shape}
use Rattle.role_box.specs.Shape.Shape.{name as name_shape}
use Rattle.role_box.specs.TheoryRows.{Theory, part_at, inclusion, range}
use Rattle.role_box.specs.Paths.{is_below}
use Rattle.role_box.specs.Line.{Line, node, no_trees, tree}
use Rattle.role_box.specs.Line.Line.{start_line, row_line, clash_line, fact_line, differ_line}
use Rattle.role_box.specs.Rules.{Question, on_any, Known, nothing_known, children_of}
use Rattle.role_box.specs.Valid.{concept_at, open_after_all, IsRefutation}
use Rattle.refutation_truth.specs.Theory.{named_axioms, theory_of, question_of}

abbrev a : Concept
a = name 10

abbrev b : Concept
b = name 11

abbrev c : Concept
c = name 12

abbrev on_line_one : Axiom → Numbered
on_line_one x = record { «axiom» = x; line = 1 }

-- 1: a in b; 2: role 0 is below role 1; 3: a, b and c are disjoint; 4: role 1 is transitive; 5: role 1 leads into c
abbrev five : List Numbered
five =
    on_line_one (SubClassOf a b) ∷ on_line_one (SubRole 0 1) ∷ on_line_one (DisjointClasses (a ∷ b ∷ c ∷ []))
    ∷ on_line_one (Transitive 1) ∷ on_line_one (Range 1 c) ∷ []

abbrev named : Theory
named = theory_of five (1 ∷ 2 ∷ 3 ∷ 5 ∷ [])

pub named_two : named_axioms five (2 ∷ 4 ∷ []) ≡ SubRole 0 1 ∷ Transitive 1 ∷ []
named_two = refl

-- parts are numbered within their axiom, from 1
pub first_part : part_at named 1 1 ≡ Some (inclusion (a ∷ []) b)
first_part = refl

pub third_of_three : part_at named 3 3 ≡ Some (inclusion (b ∷ []) (complement c))
third_of_three = refl

pub range_part : part_at named 5 1 ≡ Some (range 1 c)
range_part = refl

pub no_part_zero : part_at named 3 0 ≡ None
no_part_zero = refl

pub no_fourth_part : part_at named 3 4 ≡ None
no_fourth_part = refl

-- a role axiom has none, nor has an axiom that is not named, or one that is not there
pub none_of_roles : part_at named 2 1 ≡ None
none_of_roles = refl

pub none_unnamed : part_at (theory_of five (2 ∷ 5 ∷ [])) 1 1 ≡ None
none_unnamed = refl

pub none_there : part_at (theory_of five (6 ∷ [])) 6 1 ≡ None
none_there = refl

-- only named role axioms count
pub lower_is_below : named.below 0 1 ≡ true
unfolding is_below
lower_is_below = refl

pub upper_is_not : named.below 1 0 ≡ false
unfolding is_below
upper_is_not = refl

pub unnamed_inclusion : (theory_of five (1 ∷ 4 ∷ [])).below 0 1 ≡ false
unfolding is_below
unnamed_inclusion = refl

pub named_transitive : (theory_of five (1 ∷ 4 ∷ [])).is_transitive 1 ≡ true
named_transitive = refl

pub unnamed_transitive : named.is_transitive 1 ≡ false
unnamed_transitive = refl

-- ---- a refutation that a is in b: what is in a is in b by the row of the first axiom
abbrev by_first : List Line
by_first = start_line ∷ row_line 0 1 1 (1 ∷ []) ∷ clash_line 0 1 ∷ []

abbrev shapes : List Shape
shapes = name_shape 11 ∷ []

pub refutes_by_first : IsRefutation (on_any (theory_of five (1 ∷ [])) a b) shapes by_first
refutes_by_first = record {
  tree =
      node start_line (tree (node (row_line 0 1 1 (1 ∷ [])) (tree (node (clash_line 0 1) no_trees) no_trees)) no_trees);
  in_preorder = refl;
  is_shut = ((tt, tt), tt);
}

-- and none where the first axiom is not named
pub unnamed_refutes_nothing : open_after_all (on_any (theory_of five (2 ∷ 3 ∷ [])) a b) (concept_at shapes)
    (nothing_known ∷ []) by_first
    ≡ None
unnamed_refutes_nothing = refl

-- ---- without individuals

-- the question begins with node 0 alone, and no axiom gives a fact
pub begins_with_node_zero : (theory : Theory) (sub sup : Concept) (concept : ℕ → Option Concept)
    → children_of (on_any theory sub sup) concept nothing_known start_line
    ≡ Some (record { nodes = 0 ∷ []; facts = Has 0 (normal_form sub) ∷ Has 0 (negated_form sup) ∷ [] } ∷ [])
begins_with_node_zero theory sub sup concept = refl

pub gives_no_fact : (theory : Theory) (sub sup : Concept) (concept : ℕ → Option Concept) (k : Known) (x place : ℕ)
    → children_of (on_any theory sub sup) concept k (fact_line x place) ≡ None
gives_no_fact theory sub sup concept k x place = refl

-- ---- individuals

-- 1: individual 0 is in a; 2: a in b; 3: individuals 0, 1 and 2 are the same; 4: individuals 2, 1 and 0 are different
abbrev asserted : List Numbered
asserted =
    on_line_one (Member a 0)
    ∷ on_line_one (SubClassOf a b)
    ∷ on_line_one (SameAll (0 ∷ 1 ∷ 2 ∷ []))
    ∷ on_line_one (Different (2 ∷ 1 ∷ 0 ∷ []))
    ∷ []

-- whether each element, or an individual, is in b
abbrev in_b : On → Query
in_b on = record { sub = top; sup = b; on = on }

-- what lines leave open of a question
abbrev left_open : Question → List Line → Option (List Known)
left_open q lines = open_after_all q (concept_at shapes) (nothing_known ∷ []) lines

-- whether individual 0 is in b by the first two axioms, where it is the only one
abbrev member_in_b : Question
member_in_b = question_of 1 asserted (1 ∷ 2 ∷ []) (in_b (Individual 0))

-- the individual is in a, and so in b by the row of the second axiom
abbrev by_member : List Line
by_member = start_line ∷ fact_line 1 1 ∷ row_line 0 2 1 (1 ∷ []) ∷ clash_line 0 1 ∷ []

pub refutes_by_member : IsRefutation member_in_b shapes by_member
refutes_by_member = record {
  tree =
      node start_line
      (tree (node (fact_line 1 1)
      (tree (node (row_line 0 2 1 (1 ∷ [])) (tree (node (clash_line 0 1) no_trees) no_trees)) no_trees))
      no_trees);
  in_preorder = refl;
  is_shut = (((tt, tt), tt), tt);
}

-- that it is in a is its only fact; none is given by an axiom that is not named, and none by one of classes
pub no_second_fact : left_open member_in_b (start_line ∷ fact_line 1 2 ∷ []) ≡ None
no_second_fact = refl

pub no_fact_at_zero : left_open member_in_b (start_line ∷ fact_line 1 0 ∷ []) ≡ None
no_fact_at_zero = refl

pub no_unnamed_fact : left_open (question_of 1 asserted (2 ∷ []) (in_b (Individual 0)))
    (start_line ∷ fact_line 1 1 ∷ [])
    ≡ None
no_unnamed_fact = refl

pub no_fact_of_classes : left_open member_in_b (start_line ∷ fact_line 2 1 ∷ []) ≡ None
no_fact_of_classes = refl

-- of an individual that is not listed nothing is given, and nothing is refuted
pub no_fact_of_unlisted : left_open (question_of 0 asserted (1 ∷ 2 ∷ []) (in_b Any)) (start_line ∷ fact_line 1 1 ∷ [])
    ≡ None
no_fact_of_unlisted = refl

pub unlisted_is_not_begun : left_open (question_of 1 asserted (1 ∷ 2 ∷ []) (in_b (Individual 1))) (start_line ∷ [])
    ≡ None
unlisted_is_not_begun = refl

-- where the query speaks of each element, the node in question is that of no individual
pub any_element : left_open (question_of 2 asserted (1 ∷ 2 ∷ []) (in_b Any)) (start_line ∷ fact_line 1 1 ∷ [])
    ≡ Some (record { nodes = 0 ∷ 1 ∷ 2 ∷ []; facts = Has 2 top ∷ Has 2 (complement b) ∷ Has 0 a ∷ [] } ∷ [])
any_element = refl

-- and that the individual is in b closes no branch of it
pub any_element_stays : left_open (question_of 1 asserted (1 ∷ 2 ∷ []) (in_b Any)) by_member ≡ None
any_element_stays = refl

-- individuals that are the same are one node, and no two of these are different
abbrev same_and_different : Question
same_and_different = question_of 3 asserted (3 ∷ 4 ∷ []) (in_b Any)

pub joined_are_not_different : left_open same_and_different
    (start_line ∷ fact_line 3 1 ∷ fact_line 3 2 ∷ fact_line 4 2 ∷ differ_line 0 2 ∷ [])
    ≡ Some []
joined_are_not_different = refl

pub joined_by_both_facts : left_open same_and_different
    (start_line ∷ fact_line 3 1 ∷ fact_line 4 2 ∷ differ_line 0 2 ∷ [])
    ≡ None
joined_by_both_facts = refl

-- an individual that is different from itself refutes everything
abbrev by_itself : List Line
by_itself = start_line ∷ fact_line 1 1 ∷ differ_line 0 0 ∷ []

abbrev twice : List Numbered
twice = on_line_one (Different (0 ∷ 0 ∷ [])) ∷ []

pub refutes_by_itself : IsRefutation (question_of 1 twice (1 ∷ []) (in_b Any)) [] by_itself
refutes_by_itself = record {
  tree = node start_line (tree (node (fact_line 1 1) (tree (node (differ_line 0 0) no_trees) no_trees)) no_trees);
  in_preorder = refl;
  is_shut = ((tt, tt), tt);
}
