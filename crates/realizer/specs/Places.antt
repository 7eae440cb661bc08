-- Chains of answers over classes and individuals.
use Rattle.std.specs.Prelude.{ℕ, List, Contains}
use Rattle.axiom_sets.specs.Sets.{Limited}
use Rattle.shq_terms.specs.Concept.{Concept, top, bottom}
use Rattle.shq_terms.specs.declared.axioms.On.{On}
use Rattle.shq_terms.specs.declared.axioms.On.TheVariants.{Any, Individual}
use Rattle.shq_terms.specs.declared.axioms.Query.{Query}
use Rattle.subsumption.specs.Entry.{Entry}
use Rattle.subsumption.specs.Entry.TheVariants.{Test}
use Rattle.subsumption.specs.TestEnd.TheVariants.{Yes}

-- where a chain stands: at a class expression, or at an individual, where chains only begin
pub data Place : Type 0 where
  class_place : Concept → Place
  individual_place : ℕ → Place

-- what a query says to be part of its right side: its subclass, or the individual of which it speaks
abbrev pub left_of : Concept → On → Place
left_of sub Any = class_place sub
left_of sub (Individual a) = individual_place a

-- the left side of a query: a class, or an individual
abbrev pub left_side : Query → Place
left_side q = left_of q.sub q.on

-- the right side of a query: a class
abbrev pub right_side : Query → Place
right_side q = class_place q.sup

-- one step: a test found that the one side of its query is part of the other, or the latter place has all things, or
-- the former has none
pub data IsPlaceStep (log : List Entry) : Place → Place → Type 0 where
  by_test : (s : Limited) (q : Query) (steps : ℕ) (u : Limited) → Contains log (Test s q steps (Yes u))
      → IsPlaceStep log (left_side q) (right_side q)
  in_top : (p : Place) → IsPlaceStep log p (class_place top)
  of_bottom : (y : Concept) → IsPlaceStep log (class_place bottom) (class_place y)

-- such steps lead from one place to another; none leads from a place to itself
pub data IsPlaceChain (log : List Entry) : Place → Place → Type 0 where
  none : (p : Place) → IsPlaceChain log p p
  onward : (p q r : Place) → IsPlaceStep log p q → IsPlaceChain log q r → IsPlaceChain log p r
