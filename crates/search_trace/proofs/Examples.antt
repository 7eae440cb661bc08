-- A worked example: a union that has nothing to do with the clash is taken out of the trace.
use Rattle.std.proofs.Common.{◌≡◌, ℕ, eqb, false, true, List, [], ◌∷◌, Some, None, nat_cmp, refl, inl, inr}
use Rattle.std.proofs.lemmas.Bool.{cases_Bool}
use Rattle.std.proofs.lemmas.Cmp.{nat_cmp_total}
use Rattle.refutation_tree.specs.NumberSets.{NumberSet}
use Rattle.refutation_tree.proofs.Bits.{contains_insert}
use Rattle.std.specs.FinSet as sets
use Rattle.calculus_specs.specs.Concept.{name, intersection, union, parts_of}
use Rattle.calculus_specs.specs.Shape.{Shape}
use Rattle.calculus_specs.specs.Shape.Shape.{top as top_shape, name as name_shape, not_name, intersection as and_shape}
use Rattle.calculus_specs.specs.Shape.Shape.{union as or_shape}
use Rattle.calculus_specs.specs.Rows.{Theory}
use Rattle.calculus_specs.specs.Rules.{Question, on_any}
use Rattle.calculus_specs.specs.Line.{Line}
use Rattle.calculus_specs.specs.Line.Line.{and_line, or_line, clash_line}
use Rattle.search_trace.specs.Leaves.{leaves}
use Rattle.search_trace.specs.Noted.{Noted, NotedLine, start_of, strip, closing_rests_on}
use Rattle.search_trace.specs.Back.{step_of}

abbrev nothing : Theory
nothing = record { parts = []; below = λ r s. eqb r s; is_transitive = λ t. false }

-- 1 is a, 2 is b, 3 is c, 4 is b or c, 5 is a and 4, 6 is not a
abbrev table : List Shape
table =
    top_shape ∷ name_shape 0 ∷ name_shape 1 ∷ name_shape 2 ∷ or_shape (2 ∷ 3 ∷ []) ∷ and_shape (1 ∷ 4 ∷ []) ∷ not_name 0
    ∷ []

-- what is in a and in b or c is in a
abbrev asked : Question
asked = on_any nothing (intersection (parts_of (name 0 ∷ union (parts_of (name 1 ∷ name 2 ∷ [])) ∷ []))) (name 0)

abbrev begin : Noted
begin = start_of asked

abbrev noted : ℕ → Line → NotedLine
noted n line = record { number = n; line = line; marks = sets.empty }

-- the first alternative of the union clashes by what stands before the union
abbrev child : List NotedLine
child = noted 3 (clash_line 0 1) ∷ []

abbrev none : NumberSet
none = sets.empty

none_in_none : sets.is_subset none none ≡ true
none_in_none = sets.contains-is_subset nat_cmp_total none none (λ q is. is)

two_not_in_none : sets.is_subset (sets.insert none 2) none ≡ false
two_not_in_none = elim (cases_Bool (sets.is_subset (sets.insert none 2) none)) [
  | inl is ↦
      let has = sets.is_subset-contains nat_cmp_total (sets.insert none 2) none is 2 (contains_insert none 2 2) in
      let has_not = sets.contains-empty nat_cmp 2 in
      cc
  | inr isnt ↦ isnt
]

pub child_rests_on_nothing : closing_rests_on 2 child ≡ false
child_rests_on_nothing = rw (sets.contains-empty nat_cmp 2) refl

-- without the union all is closed
pub all_is_closed : leaves (step_of asked table) (begin ∷ []) (noted 1 (and_line 0 5) ∷ strip 2 child) ≡ Some []
all_is_closed = simp (none_in_none, sets.contains-empty nat_cmp 2) refl

-- a clash that says that it rests on no mark, where it rests on that of the union, has no premises that hold
pub marks_are_tested : leaves (step_of asked table) (begin ∷ [])
    (noted 1 (and_line 0 5) ∷ noted 2 (or_line 0 4) ∷ noted 3 (clash_line 0 2) ∷ [])
    ≡ None
marks_are_tested = simp (none_in_none, two_not_in_none) refl
