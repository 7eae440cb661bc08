-- A search that keeps no marks: each fact and each line rests on all choices that stand before it on the trail.
use Rattle.std.specs.Prelude.{◌≡◌, true, List, [], ◌∷◌, Some}
use Rattle.std.specs.List.{list_all}
use Rattle.std.specs.FinSet as sets
use Rattle.refutation_tree.specs.NumberSets.{NumberSet}
use Rattle.calculus_specs.specs.Shape.{Shape}
use Rattle.calculus_specs.specs.Rules.{Question}
use Rattle.tableau_specs.specs.declared.Item.{Item}
use Rattle.tableau_specs.specs.declared.Item.TheVariants.{Fact as Says, Mark}
use Rattle.calculus_specs.specs.Line.{Line}
use Rattle.tableau_specs.specs.Lines.{concept_in}
use Rattle.search_trace.specs.Premises.{Rule, rule_of, holds}
use Rattle.search_trace.specs.Noted.{marked}
use Rattle.search_trace.specs.Trail.{MarkedFact, trail_within}

-- the choices that the items make, by the numbers of their lines, after those in u
abbrev pub choices_after : NumberSet → List Item → NumberSet
choices_after u [] = u
choices_after u (Says f ∷ is) = choices_after u is
choices_after u (Mark c ∷ is) = choices_after (sets.insert u c.line) is

-- the facts, each with the choices that stand before it
abbrev pub facts_after : NumberSet → List Item → List MarkedFact
facts_after u [] = []
facts_after u (Says f ∷ is) = marked u f ∷ facts_after u is
facts_after u (Mark c ∷ is) = facts_after (sets.insert u c.line) is

-- the set of all choices of a trail
abbrev pub choices_of : List Item → NumberSet
choices_of is = choices_after sets.empty is

-- the facts of a trail, each with the choices before it
abbrev pub marked_facts : List Item → List MarkedFact
marked_facts is = facts_after sets.empty is

-- a rule whose premises hold by all facts of the trail
pub record HoldsByAll (q : Question) (table : List Shape) (u : NumberSet) (ms : List MarkedFact) (line : Line) :
    Type 0 where
  pub rule : Rule
  pub is_rule : rule_of q (concept_in table) line ≡ Some rule
  pub premises : list_all (holds q.theory (trail_within q.first table u ms)) rule.premises ≡ true
