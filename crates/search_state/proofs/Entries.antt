-- Entries as items, as facts and as facts with their marks.
use Rattle.std.proofs.Common.{◌≡◌, ℕ, true, false, cond, List, [], ◌∷◌, ◌++◌, map, refl, ap}
use Rattle.std.specs.List.{filter}
use Rattle.std.specs.FinSet as sets
use Rattle.lane_sieve.specs.Sets.{NumberSet}
use Rattle.calculus_specs.specs.declared.facts.Fact.{Fact}
use Rattle.tableau_specs.specs.declared.Choice.{Choice}
use Rattle.tableau_specs.specs.declared.Item.{Item}
use Rattle.tableau_specs.specs.declared.Item.TheVariants.{Fact as Says}
use Rattle.tableau_specs.specs.Items.{facts_of, says}
use Rattle.search_trace.specs.Noted.{marked, is_within, within, items}
use Rattle.search_trace.specs.Trail.{MarkedFact}
use Rattle.step_agenda.specs.By.{By}
use Rattle.step_agenda.specs.Entry.{Entry}
use Rattle.step_agenda.specs.Entry.TheVariants.{Fact as Grounded, Mark}
use Rattle.step_agenda.specs.Trail.{facts_in, items_of, item_of, grounded}
use Rattle.step_agenda.specs.Marks.{facts_within}
use Rattle.search_state.specs.Marked.{marked_in}

pub items-marked : (es : List Entry) → items (marked_in es) ≡ facts_in es
items-marked [] = refl
items-marked (Grounded f by ∷ es) = ap (λ (fs : List (Fact ℕ)). f ∷ fs) (items-marked es)
items-marked (Mark c ∷ es) = items-marked es

pub facts-items : (es : List Entry) → facts_of (items_of es) ≡ facts_in es
facts-items [] = refl
facts-items (Grounded f by ∷ es) = ap (λ (fs : List (Fact ℕ)). f ∷ fs) (facts-items es)
facts-items (Mark c ∷ es) = facts-items es

pub within-marked : (u : NumberSet) (es : List Entry) → within u (marked_in es) ≡ facts_within u es
within-marked u [] = refl
within-marked u (Grounded f by ∷ es) =
    elim (sets.is_subset by.marks u) as
    (λ b. map (λ (m : MarkedFact). m.item)
    (cond b (marked by.marks f ∷ filter (is_within u) (marked_in es)) (filter (is_within u) (marked_in es)))
    ≡ cond b (f ∷ facts_within u es) (facts_within u es)) [
      | true ↦ ap (λ (fs : List (Fact ℕ)). f ∷ fs) (within-marked u es)
      | false ↦ within-marked u es
    ]
within-marked u (Mark c ∷ es) = within-marked u es

pub marked-append : (es more : List Entry) → marked_in (es ++ more) ≡ marked_in es ++ marked_in more
marked-append [] more = refl
marked-append (Grounded f by ∷ es) more = ap (λ (ms : List MarkedFact). marked by.marks f ∷ ms) (marked-append es more)
marked-append (Mark c ∷ es) more = marked-append es more

pub marked-grounded : (by : By) (fs : List (Fact ℕ)) → marked_in (grounded by fs) ≡ map (marked by.marks) fs
marked-grounded by [] = refl
marked-grounded by (f ∷ fs) = ap (λ (ms : List MarkedFact). marked by.marks f ∷ ms) (marked-grounded by fs)

pub facts-append : (es more : List Entry) → facts_in (es ++ more) ≡ facts_in es ++ facts_in more
facts-append [] more = refl
facts-append (Grounded f by ∷ es) more = ap (λ (fs : List (Fact ℕ)). f ∷ fs) (facts-append es more)
facts-append (Mark c ∷ es) more = facts-append es more

pub facts-grounded : (by : By) (fs : List (Fact ℕ)) → facts_in (grounded by fs) ≡ fs
facts-grounded by [] = refl
facts-grounded by (f ∷ fs) = ap (λ (gs : List (Fact ℕ)). f ∷ gs) (facts-grounded by fs)

pub items-append : (es more : List Entry) → items_of (es ++ more) ≡ items_of es ++ items_of more
items-append [] more = refl
items-append (e ∷ es) more = ap (λ (is : List Item). item_of e ∷ is) (items-append es more)

pub items-grounded : (by : By) (fs : List (Fact ℕ)) → items_of (grounded by fs) ≡ says fs
items-grounded by [] = refl
items-grounded by (f ∷ fs) = ap (λ (is : List Item). Says f ∷ is) (items-grounded by fs)

pub facts-marked : (es : List Entry) (c : Choice) → facts_in (es ++ Mark c ∷ []) ≡ facts_in es
facts-marked [] c = refl
facts-marked (Grounded f by ∷ es) c = ap (λ (fs : List (Fact ℕ)). f ∷ fs) (facts-marked es c)
facts-marked (Mark d ∷ es) c = facts-marked es c
