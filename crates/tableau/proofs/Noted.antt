-- What is noted of a run is what it has put.
use Rattle.std.proofs.Common.{◌≡◌, ℕ, zero, suc, ◌+◌, ◌-◌, ◌<◌, ◌≤◌, ◌||◌, min, not, Bool, true, false, List, [], ◌∷◌}
use Rattle.std.proofs.Common.{length, drop, ap, ◌∙◌, sym, arith}
use Rattle.std.proofs.lemmas.Bool.{or_right, or_parts, and_from, false_from_ne_true, both_ways}
use Rattle.std.specs.List.{list_any}
use Rattle.std.proofs.lemmas.List.{length-map}
use Rattle.std.specs.FinSet as set
use Rattle.std.specs.Ordering.{nat_cmp}
use Rattle.std.proofs.Math.Bool.{or_assoc}
use Rattle.calculus_specs.specs.Shape.{Shape}
use Rattle.calculus_specs.specs.declared.facts.Fact.{Fact}
use Rattle.tableau_specs.specs.declared.Item.{Item}
use Rattle.tableau_specs.specs.declared.Item.TheVariants.{Fact as Says, Mark}
use Rattle.tableau_specs.specs.Items.{facts_of}
use Rattle.tableau_specs.specs.Steps.{SearchContext, IsLegal}
use Rattle.search_state.specs.Entry.{Entry}
use Rattle.search_state.specs.Trail.{items_of, item_of}
use Rattle.search_laws.specs.Runs.{was_ever}
use Rattle.search_laws.proofs.Last.{steps_put_last}
use Rattle.tableau.specs.Seen.{SeenSets, holds, no_classes, nothing_seen, gives_class, gives_complement, gives_more}
use Rattle.tableau.specs.Seen.{AreOver}
use Rattle.tableau.specs.Seen.{HasNoted, AreSeenIn}
use Rattle.search_rules.specs.RuleLists.{RuleLists, context_in}
use Rattle.tableau.specs.Inside.{HasNotedNew}
use Rattle.tableau.proofs.Noting.{bare_before}

-- ---- the start

pub none_held : (count a : ℕ) → holds (no_classes count) a ≡ false
none_held count a = set.contains-empty nat_cmp (a + 1)

pub over_at_start : (at : ℕ) (table : List Shape) (fs : List (Fact ℕ)) (count concepts : ℕ) (s : SeenSets)
    → HasNoted at table fs (nothing_seen count concepts) s → AreOver count s
over_at_start at table fs count concepts s noted =
    record { node_limit = noted.at_node.limit; complements_limit = noted.complements.limit }

pub seen_at_start : (at : ℕ) (table : List Shape) (first : List Item) (count concepts : ℕ) (s : SeenSets)
    → HasNoted at table (facts_of first) (nothing_seen count concepts) s → AreSeenIn at table (first ∷ []) s
seen_at_start at table first count concepts s noted = record {
  at_node = λ a lt.
      let below : a < count = omega (arith, lt, noted.at_node.limit) in
      noted.at_node.held a below
      ∙ ap (λ (b : Bool). list_any (gives_class at table a) (facts_of first) || b) (none_held count a);
  complements = λ a lt.
      let below : a < count = omega (arith, lt, noted.complements.limit) in
      noted.complements.held a below
      ∙ ap (λ (b : Bool). list_any (gives_complement at table a) (facts_of first) || b) (none_held count a);
  bare = λ still. ap (λ (b : Bool). b || false) (bare_before true s.bare _ noted.bare still).1;
}

pub bare_at_start : (at : ℕ) (table : List Shape) (first : List Item) (count concepts : ℕ) (s : SeenSets)
    → HasNoted at table (facts_of first) (nothing_seen count concepts) s
    → list_any (gives_more at) (facts_of first) ≡ false → s.bare ≡ true
bare_at_start at table first count concepts s noted none = noted.bare ∙ ap not none

-- ---- a step

-- what some of the facts of a trail do, all of them do
pub any_of_all : (p : Fact ℕ → Bool) (k : ℕ) (is : List Item) → list_any p (facts_of (drop k is)) ≡ true
    → list_any p (facts_of is) ≡ true
any_of_all p zero is h = h
any_of_all p (suc k) [] h = h
any_of_all p (suc k) (Says f ∷ is) h = or_right (p f) (list_any p (facts_of is)) (any_of_all p k is h)
any_of_all p (suc k) (Mark c ∷ is) h = any_of_all p k is h

pub bare_after : (rules : RuleLists) (at : ℕ) (old new : List Entry) (earlier : List (List Item)) (s s' : SeenSets)
    → HasNotedNew rules at (length old) new s s'
    → (was_ever (gives_more at) (items_of old ∷ earlier) ≡ false → s.bare ≡ true)
    → was_ever (gives_more at) (items_of new ∷ items_of old ∷ earlier) ≡ false → s'.bare ≡ true
bare_after rules at old new earlier s s' noted before none =
    let p = gives_more at in
    let place = min (length old) (length new - 1) in
    let some = list_any p (facts_of (drop place (items_of new))) in
    let t = or_parts (list_any p (facts_of (items_of new))) (was_ever p (items_of old ∷ earlier)) none in
    noted.bare
    ∙ and_from s.bare (not some) (before t.1)
    (ap not
    (false_from_ne_true some (λ put.
    both_ways (list_any p (facts_of (items_of new))) t.0 (any_of_all p place (items_of new) put))))

pub over_after : (count : ℕ) (rules : RuleLists) (at before : ℕ) (new : List Entry) (s s' : SeenSets) → AreOver count s
    → HasNotedNew rules at before new s s' → AreOver count s'
over_after count rules at before new s s' over noted = record {
  node_limit = noted.at_node.limit ∙ over.node_limit;
  complements_limit = noted.complements.limit ∙ over.complements_limit;
}

pub still_ever : (p : Fact ℕ → Bool) (place : ℕ) (w : SearchContext) (old new : List Item) (earlier : List (List Item))
    (held held' : Bool)
    → IsLegal w old new → place ≤ length old → place ≤ length new - 1
    → held ≡ was_ever p (old ∷ earlier) → held' ≡ (list_any p (facts_of (drop place new)) || held)
    → held' ≡ was_ever p (new ∷ old ∷ earlier)
still_ever p place w old new earlier held held' legal le last before noted =
    let rest = was_ever p earlier in
    noted ∙ ap (λ (b : Bool). list_any p (facts_of (drop place new)) || b) before
    ∙ sym (or_assoc (list_any p (facts_of (drop place new))) (list_any p (facts_of old)) rest)
    ∙ ap (λ (b : Bool). b || rest) (sym (steps_put_last w old new legal place le last p))
    ∙ or_assoc (list_any p (facts_of new)) (list_any p (facts_of old)) rest

pub seen_after : (rules : RuleLists) (at : ℕ) (old new : List Entry) (earlier : List (List Item)) (s s' : SeenSets)
    → IsLegal (context_in rules) (items_of old) (items_of new)
    → AreSeenIn at rules.table (items_of old ∷ earlier) s → HasNotedNew rules at (length old) new s s'
    → AreSeenIn at rules.table (items_of new ∷ items_of old ∷ earlier) s'
seen_after rules at old new earlier s s' legal seen noted =
    let place = min (length old) (length new - 1) in
    let le : place ≤ length (items_of old) = omega (arith, length-map old item_of) in
    let last : place ≤ length (items_of new) - 1 = omega (arith, length-map new item_of) in
    record {
      at_node = λ a lt.
          let below : a < s.at_node.limit = omega (arith, lt, noted.at_node.limit) in
          still_ever (gives_class at rules.table a) place (context_in rules) (items_of old) (items_of new) earlier
          (holds s.at_node a) (holds s'.at_node a) legal le last (seen.at_node a below) (noted.at_node.held a below);
      complements = λ a lt.
          let below : a < s.complements.limit = omega (arith, lt, noted.complements.limit) in
          still_ever (gives_complement at rules.table a) place (context_in rules) (items_of old) (items_of new) earlier
          (holds s.complements a) (holds s'.complements a) legal le last (seen.complements a below)
          (noted.complements.held a below);
      bare = λ still.
          let t = bare_before s.bare s'.bare _ noted.bare still in
          sym
          (still_ever (gives_more at) place (context_in rules) (items_of old) (items_of new) earlier false false legal
          le last (sym (seen.bare t.0)) (sym (ap (λ (b : Bool). b || false) t.1)));
    }
