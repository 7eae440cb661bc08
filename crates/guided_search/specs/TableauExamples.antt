-- Two questions without any axiom. That what is in class 0 or class 1 is in one of them has a closed tableau; that what
-- is in class 0 is in class 1 has a counter-model and none.
use Rattle.std.specs.Prelude.{◌==◌, false, List, [], ◌∷◌}
use Rattle.calculus_specs.specs.Concept.{Concept, name, union as union_of, parts_of}
use Rattle.calculus_specs.specs.Shape.{Shape}
use Rattle.calculus_specs.specs.Shape.Shape.{top, name as name_shape, not_name, intersection, union}
use Rattle.calculus_specs.specs.Rules.{Question}
use Rattle.role_box.specs.Listed.{Listed}
use Rattle.role_box.specs.Query.{Query}
use Rattle.role_box.specs.On.TheVariants.{Any}
use Rattle.refutation_truth.specs.Truth.{Interpretation}
use Rattle.refutation_truth.specs.Theory.{question_in}
use Rattle.tableau_specs.specs.declared.Item.{Item}
use Rattle.tableau_specs.specs.Reached.{start, context_of}
use Rattle.search_laws.specs.CounterModelLaws.{IsCounterModel}
use Rattle.guided_search.specs.ClosedTableau.{ClosedTableau, HasClosedTableau}

-- no axioms, and two classes
abbrev pub two_classes : Listed
two_classes = record { axioms = []; classes = (65 ∷ []) ∷ (66 ∷ []) ∷ []; roles = []; individuals = [] }

-- ---- a question with a closed tableau

abbrev pub either : Concept
either = union_of (parts_of (name 0 ∷ name 1 ∷ []))

-- whether what is in either class is in either
abbrev pub question : Question
question = question_in two_classes [] (record { sub = either; sup = either; on = Any })

-- numbers 1 to 6: the classes, their complements, the union of the classes, and the intersection of the complements
abbrev pub table : List Shape
table =
    top ∷ name_shape 0 ∷ name_shape 1 ∷ not_name 0 ∷ not_name 1 ∷ union (1 ∷ 2 ∷ []) ∷ intersection (3 ∷ 4 ∷ []) ∷ []

-- node 0 has the union, and the intersection of the complements
abbrev pub first : List Item
first = start 0 5 6

-- ---- a question without one

-- whether what is in class 0 is in class 1
abbrev pub first_in_second : Query
first_in_second = record { sub = name 0; sup = name 1; on = Any }

-- one element, which is in class 0 alone
abbrev pub one_element : Interpretation
one_element = record {
  size = 1;
  in_class = λ a x. a == 0;
  in_role = λ r x y. false;
  individual = λ a. 0;
}

-- each field is an example of its own
pub record ExamplesHold : Type 0 where
  pub closed_tableau : ClosedTableau (context_of question table []) first
  pub has_closed_tableau : HasClosedTableau question
  pub counter_model : IsCounterModel two_classes [] first_in_second one_element
  pub no_closed_tableau : ¬ HasClosedTableau (question_in two_classes [] first_in_second)
