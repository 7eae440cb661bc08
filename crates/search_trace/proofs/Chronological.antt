-- A search that keeps no marks.
use Rattle.std.proofs.Common.{◌≡◌, ℕ, ◌<◌, eqb, true, false, List, [], ◌∷◌, ◌++◌, map, Option, Some, None, refl, ap}
use Rattle.std.proofs.Common.{◌∙◌, sym}
use Rattle.std.specs.List.{list_any, list_all}
use Rattle.std.specs.FinSet as sets
use Rattle.std.proofs.lemmas.Bool.{and_from, or_right}
use Rattle.std.proofs.lemmas.Cmp.{nat_cmp_total}
use Rattle.refutation_tree.specs.NumberSets.{NumberSet}
use Rattle.refutation_tree.proofs.Bits.{contains_insert}
use Rattle.calculus_specs.specs.Shape.{Shape}
use Rattle.calculus_specs.specs.declared.facts.Fact.{Fact}
use Rattle.calculus_specs.specs.State.{node_count_from}
use Rattle.tableau_specs.specs.declared.Item.{Item}
use Rattle.tableau_specs.specs.declared.Item.TheVariants.{Fact as Says, Mark}
use Rattle.tableau_specs.specs.Items.{facts_of, says}
use Rattle.calculus_specs.specs.Line.{Line}
use Rattle.calculus_specs.specs.Rules.{Question, Known, when, children_of}
use Rattle.tableau_specs.specs.Lines.{known_by, concept_in}
use Rattle.search_trace.specs.Premises.{Rule, rule_of, holds, is_new, with_added, is_start, children_by}
use Rattle.search_trace.specs.Noted.{Marked, marked, is_within, items}
use Rattle.search_trace.specs.Trail.{MarkedFact, nodes_of, trail_within, AllWithin}
use Rattle.search_trace.specs.Chronological.{choices_after, facts_after, HoldsByAll}
use Rattle.search_trace.proofs.Among.{premises_stay}
use Rattle.search_trace.proofs.Single.{when_some}
use Rattle.search_trace.proofs.Rules.{rules_say}
use Rattle.search_trace.proofs.Trail.{whole_part}

-- ---- the marks of a trail

pub items_after : (u : NumberSet) (is : List Item) → items (facts_after u is) ≡ facts_of is
items_after u [] = refl
items_after u (Says f ∷ is) = ap (λ (fs : List (Fact ℕ)). f ∷ fs) (items_after u is)
items_after u (Mark c ∷ is) = items_after (sets.insert u c.line) is

insert_part : (u : NumberSet) (n : ℕ) → sets.is_subset u (sets.insert u n) ≡ true
insert_part u n =
    sets.contains-is_subset nat_cmp_total u (sets.insert u n)
    (λ q is. contains_insert u n q ∙ or_right (eqb q n) (sets.contains u q) is)

part_on : (s t v : NumberSet) → sets.is_subset s t ≡ true → sets.is_subset t v ≡ true → sets.is_subset s v ≡ true
part_on s t v h g =
    sets.contains-is_subset nat_cmp_total s v
    (λ q is. sets.is_subset-contains nat_cmp_total t v g q (sets.is_subset-contains nat_cmp_total s t h q is))

part_itself : (s : NumberSet) → sets.is_subset s s ≡ true
part_itself s = sets.contains-is_subset nat_cmp_total s s (λ q is. is)

pub choices_rise : (u : NumberSet) (is : List Item) → sets.is_subset u (choices_after u is) ≡ true
choices_rise u [] = part_itself u
choices_rise u (Says f ∷ is) = choices_rise u is
choices_rise u (Mark c ∷ is) =
    part_on u (sets.insert u c.line) (choices_after (sets.insert u c.line) is) (insert_part u c.line)
    (choices_rise (sets.insert u c.line) is)

pub all_within_choices : (u : NumberSet) (is : List Item) → AllWithin (choices_after u is) (facts_after u is)
all_within_choices u [] = refl
all_within_choices u (Says f ∷ is) =
    let m : Marked (Fact ℕ) = marked u f in
    and_from (is_within (choices_after u is) m) (list_all (is_within (choices_after u is)) (facts_after u is))
    (choices_rise u is) (all_within_choices u is)
all_within_choices u (Mark c ∷ is) = all_within_choices (sets.insert u c.line) is

pub choices-append : (u : NumberSet) (is js : List Item)
    → choices_after u (is ++ js) ≡ choices_after (choices_after u is) js
choices-append u [] js = refl
choices-append u (Says f ∷ is) js = choices-append u is js
choices-append u (Mark c ∷ is) js = choices-append (sets.insert u c.line) is js

pub facts-append : (u : NumberSet) (is js : List Item)
    → facts_after u (is ++ js) ≡ facts_after u is ++ facts_after (choices_after u is) js
facts-append u [] js = refl
facts-append u (Says f ∷ is) js = ap (λ (ms : List MarkedFact). marked u f ∷ ms) (facts-append u is js)
facts-append u (Mark c ∷ is) js = facts-append (sets.insert u c.line) is js

pub facts-says : (u : NumberSet) (fs : List (Fact ℕ)) → facts_after u (says fs) ≡ map (marked u) fs
facts-says u [] = refl
facts-says u (f ∷ fs) = ap (λ (ms : List MarkedFact). marked u f ∷ ms) (facts-says u fs)

-- ---- a line whose premises hold in the state

by_all_of : (q : Question) (table : List Shape) (u : NumberSet) (ms : List MarkedFact) (line : Line) → AllWithin u ms
    → ((x : ℕ) → x < node_count_from q.first (items ms) → list_any (λ y. eqb y x) (items (nodes_of q.first ms)) ≡ true)
    → (r : Option Rule) → rule_of q (concept_in table) line ≡ r → (kids : List Known)
    → children_by q (known_by q.first table (items ms)) r ≡ Some kids → HoldsByAll q table u ms line
by_all_of q table u ms line all full None e kids h = cc
by_all_of q table u ms line all full (Some r) e kids h =
    let k = known_by q.first table (items ms) in
    let a =
    when_some (list_all (holds q.theory k) r.premises)
    (when (list_all (is_new k) r.children) (Some (map (with_added k) r.children))) kids h in
    record {
      rule = r;
      is_rule = e;
      premises =
          premises_stay q.theory k (trail_within q.first table u ms) (whole_part q.first table u ms all full) r.premises
          a.0;
    }

pub holds_by_all : (q : Question) (table : List Shape) (u : NumberSet) (ms : List MarkedFact) (line : Line)
    → AllWithin u ms
    → ((x : ℕ) → x < node_count_from q.first (items ms) → list_any (λ y. eqb y x) (items (nodes_of q.first ms)) ≡ true)
    → is_start line ≡ false
    → (kids : List Known) → children_of q (concept_in table) (known_by q.first table (items ms)) line ≡ Some kids
    → HoldsByAll q table u ms line
holds_by_all q table u ms line all full no_start kids h =
    by_all_of q table u ms line all full (rule_of q (concept_in table) line) refl kids
    (sym (rules_say q (concept_in table) (known_by q.first table (items ms)) line no_start) ∙ h)
