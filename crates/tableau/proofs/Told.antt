-- What tells other nodes apart from the node in question, in all trails of a run.
use Rattle.std.proofs.Common.{◌≡◌, ℕ, zero, suc, ◌-◌, ◌<◌, ◌≤◌, ◌&&◌, ◌||◌, eqb, min, Bool, true, false, cond}
use Rattle.std.proofs.Common.{List, [], ◌∷◌, ◌++◌, length, take, drop, Some, refl, ap, ◌∙◌, sym, subst, arith, inl, inr}
use Rattle.std.proofs.Common.{length-append, append_assoc}
use Rattle.std.specs.List.{list_any, slice_get}
use Rattle.std.proofs.lemmas.Bool.{or_cases, or_left, or_right, false_from_ne_true, and_parts, eqb-true, both_ways}
use Rattle.std.proofs.lemmas.List.{append-nil, length-map, length-take-le}
use Rattle.std.proofs.lemmas.List.Folds.{list_any-append}
use Rattle.std.proofs.lemmas.List.Elements.{All-weaker, All-cons, All-nil, All-head}
use Rattle.std.proofs.lemmas.Option.{slice_get_within}
use Rattle.calculus_specs.specs.Shape.{Shape}
use Rattle.calculus_specs.specs.declared.facts.Fact.{Fact}
use Rattle.calculus_specs.specs.declared.facts.Fact.TheVariants.{Has}
use Rattle.calculus_specs.specs.State.{has}
use Rattle.tableau_specs.specs.declared.Choice.{Choice}
use Rattle.tableau_specs.specs.declared.Item.{Item}
use Rattle.tableau_specs.specs.declared.Item.TheVariants.{Fact as Says, Mark}
use Rattle.tableau_specs.specs.Items.{facts_of, says}
use Rattle.tableau_specs.specs.Steps.{SearchContext, IsLegal, next_choice}
use Rattle.tableau_specs.specs.Steps.IsLegal.{add, give, generate, choose, back}
use Rattle.tableau_specs.specs.Reached.{start}
use Rattle.search_state.specs.Entry.{Entry}
use Rattle.search_state.specs.Trail.{items_of, item_of, facts_in}
use Rattle.search_state.proofs.Entries.{facts-items}
use Rattle.search_rules.specs.RuleLists.{RuleLists, context_in}
use Rattle.search_laws.specs.Runs.{was_ever, puts_at}
use Rattle.search_laws.proofs.Asked.{has_stays}
use Rattle.search_laws.proofs.Grown.{facts_of-append, facts_of-says}
use Rattle.search_laws.proofs.Running.{ever_now}
use Rattle.tableau.specs.Seen.{SeenSets, holds, no_classes, nothing_seen, gives_bearing, HasOwn, AreToldBy}
use Rattle.tableau.specs.Seen.{AreToldFrom, AreTold, HasTold, IsToldApart, HasNoted, HasNoOwn, BearsBy, Bears, IsOwnBy}
use Rattle.tableau.specs.Seen.{IsOwnIn, concept_room}
use Rattle.tableau.specs.Inside.{HasNotedNew, HasToldNew}
use Rattle.tableau.proofs.Bearing.{not_own_is_there, contains_first, bears_later, not_set_apart}
use Rattle.tableau.proofs.Noted.{still_ever, none_held, any_of_all}
use Rattle.tableau.proofs.Telling.{own_later, own_before}

-- ---- sets that grow

record IsWider (s s' : SeenSets) : Type 0 where
  limit : s'.bearing.limit ≡ s.bearing.limit
  bearing : (a : ℕ) → a < s.bearing.limit → holds s.bearing a ≡ true → holds s'.bearing a ≡ true
  own : (c : ℕ) → c < s.there.limit → holds s.own c ≡ true → holds s'.own c ≡ true
  there : s'.there.limit ≡ s.there.limit

module _ (first at : ℕ) (table : List Shape) where
  wider : (all some : List (Fact ℕ)) (old new : SeenSets) → HasTold first at table all some old new → IsWider old new
  wider all some old new h = record {
    limit = h.limit;
    bearing = λ a lt held.
        h.bearing a lt (or_right (list_any (gives_bearing at table a) some) (holds old.bearing a) held);
    own = h.own;
    there = h.there.limit;
  }

  module _ (s s' : SeenSets) (w : IsWider s s') where
    by_wider : (fs : List (Fact ℕ)) → AreToldBy first at table fs fs s → AreToldBy first at table fs fs s'
    by_wider fs h x c a high other lt put sh out =
        own_later s s' fs x c w.own w.there
        (h x c a high other (omega (arith, lt, w.limit)) put sh
        (false_from_ne_true (holds s.bearing a)
        (λ held. (let k = w.bearing a (omega (arith, lt, w.limit)) held in cc))))

    from_wider : (fs : List (Fact ℕ)) (items : List Item) → AreToldFrom first at table s fs items
        → AreToldFrom first at table s' fs items
    from_wider fs [] h = by_wider fs h
    from_wider fs (Says f ∷ items) h = from_wider (fs ++ f ∷ []) items h
    from_wider fs (Mark c ∷ items) h = (by_wider fs h.0, from_wider fs items h.1)

  -- ---- fronts of a trail

  module _ (s : SeenSets) where
    told_end : (fs : List (Fact ℕ)) (items : List Item) → AreToldFrom first at table s fs items
        → AreToldBy first at table (fs ++ facts_of items) (fs ++ facts_of items) s
    told_end fs [] h = subst (λ (gs : List (Fact ℕ)). AreToldBy first at table gs gs s) (sym (append-nil fs)) h
    told_end fs (Says f ∷ items) h =
        subst (λ (gs : List (Fact ℕ)). AreToldBy first at table gs gs s) (append_assoc fs (f ∷ []) (facts_of items))
        (told_end (fs ++ f ∷ []) items h)
    told_end fs (Mark c ∷ items) h = told_end fs items h.1

    told_front : (fs : List (Fact ℕ)) (items : List Item) (place : ℕ) (c : Choice)
        → slice_get items place ≡ Some (Mark c) → AreToldFrom first at table s fs items
        → AreToldFrom first at table s fs (take place items)
    told_front fs [] place c read h = absurd (cc)
    told_front fs (Says f ∷ items) zero c read h = absurd (cc)
    told_front fs (Mark d ∷ items) zero c read h = h.0
    told_front fs (Says f ∷ items) (suc place) c read h = told_front (fs ++ f ∷ []) items place c read h
    told_front fs (Mark d ∷ items) (suc place) c read h = (h.0, told_front fs items place c read h.1)

    told_append : (fs : List (Fact ℕ)) (items more : List Item) → AreToldFrom first at table s fs items
        → AreToldFrom first at table s (fs ++ facts_of items) more → AreToldFrom first at table s fs (items ++ more)
    told_append fs [] more h g =
        subst (λ (gs : List (Fact ℕ)). AreToldFrom first at table s gs more) (append-nil fs) g
    told_append fs (Says f ∷ items) more h g =
        told_append (fs ++ f ∷ []) items more h
        (subst (λ (gs : List (Fact ℕ)). AreToldFrom first at table s gs more)
        (sym (append_assoc fs (f ∷ []) (facts_of items))) g)
    told_append fs (Mark c ∷ items) more h g = (h.0, told_append fs items more h.1 g)

    told_says : (fs gs : List (Fact ℕ)) → AreToldBy first at table (fs ++ gs) (fs ++ gs) s
        → AreToldFrom first at table s fs (says gs)
    told_says fs [] h = subst (λ (hs : List (Fact ℕ)). AreToldBy first at table hs hs s) (append-nil fs) h
    told_says fs (g ∷ gs) h =
        told_says (fs ++ g ∷ []) gs
        (subst (λ (hs : List (Fact ℕ)). AreToldBy first at table hs hs s) (sym (append_assoc fs (g ∷ []) gs)) h)

  pub told_now : (s : SeenSets) (trail : List Item) → AreTold first at table s trail
      → AreToldBy first at table (facts_of trail) (facts_of trail) s
  told_now s trail h = told_end s [] trail h

  -- ---- a step

  any_dropped : (p : Fact ℕ → Bool) (k : ℕ) (is js : List Item) → k ≤ length is → list_any p (facts_of js) ≡ true
      → list_any p (facts_of (drop k (is ++ js))) ≡ true
  any_dropped p zero is js le h =
      ap (list_any p) (facts_of-append is js) ∙ list_any-append p (facts_of is) (facts_of js)
      ∙ or_right (list_any p (facts_of is)) (list_any p (facts_of js)) h
  any_dropped p (suc k) [] js le h = absurd (omega (arith, le))
  any_dropped p (suc k) (i ∷ is) js le h = any_dropped p k is js (omega (arith, le)) h

  module _ (s s' : SeenSets) (w : IsWider s s') where
    -- the facts of a front that was told stay told with more facts, and the new ones are
    both_told : (fs gs some : List (Fact ℕ)) → AreToldBy first at table fs fs s
        → AreToldBy first at table (fs ++ gs) some s'
        → ((x c : ℕ) → list_any (puts_at x c) gs ≡ true → list_any (puts_at x c) some ≡ true)
        → AreToldBy first at table (fs ++ gs) (fs ++ gs) s'
    both_told fs gs some h g within x c a high other lt put sh out =
        elim (or_cases (list_any (puts_at x c) fs) (list_any (puts_at x c) gs)
        (sym (list_any-append (puts_at x c) fs gs) ∙ put)) [
          | inl early ↦ more (by_wider s s' w fs h x c a high other lt early sh out)
          | inr late ↦ g x c a high other lt (within x c late) sh out
        ]
      where
        more : HasOwn s' fs x c → HasOwn s' (fs ++ gs) x c
        more own = record {
          concept = own.concept;
          holds_it = has_stays fs gs x own.concept own.holds_it;
          is_own = own.is_own;
          is_within = own.is_within;
          is_not_top = own.is_not_top;
          is_another = own.is_another;
        }

    -- the front of the new trail, and its end, of which some is noted
    told_with : (front more : List Item) (place : ℕ) → place ≤ length front
        → AreToldBy first at table (facts_of front) (facts_of front) s
        → AreToldBy first at table (facts_of (front ++ more)) (facts_of (drop place (front ++ more))) s'
        → AreToldBy first at table (facts_of front ++ facts_of more) (facts_of front ++ facts_of more) s'
    told_with front more place le h g =
        both_told (facts_of front) (facts_of more) (facts_of (drop place (front ++ more))) h
        (subst (λ (fs : List (Fact ℕ)). AreToldBy first at table fs (facts_of (drop place (front ++ more))) s')
        (facts_of-append front more) g)
        (λ x c. any_dropped (puts_at x c) place front more le)

  told_step : (s s' : SeenSets) (w : SearchContext) (old new : List Item) (place : ℕ) → IsWider s s'
      → IsLegal w old new → place ≤ length old → place ≤ length new - 1 → AreTold first at table s old
      → AreToldBy first at table (facts_of new) (facts_of (drop place new)) s' → AreTold first at table s' new
  told_step s s' w old new' place wide (add x d nc adds out) le last h g =
      told_append s' [] old (Says (Has x d) ∷ []) (from_wider s s' wide [] old h)
      (told_with s s' wide old (Says (Has x d) ∷ []) place le (told_now s old h) g)
  told_step s s' w old new' place wide (give f nc is_given out) le last h g =
      told_append s' [] old (Says f ∷ []) (from_wider s s' wide [] old h)
      (told_with s s' wide old (Says f ∷ []) place le (told_now s old h) g)
  told_step s s' w old new' place wide (generate fs nc makes) le last h g =
      told_append s' [] old (says fs) (from_wider s s' wide [] old h)
      (told_says s' (facts_of old) fs
      (subst (λ (gs : List (Fact ℕ)). AreToldBy first at table (facts_of old ++ gs) (facts_of old ++ gs) s')
      (facts_of-says fs) (told_with s s' wide old (says fs) place le (told_now s old h) g)))
  told_step s s' w old new' place wide (choose c f nc may one alt) le last h g =
      told_append s' [] old (Mark c ∷ Says f ∷ []) (from_wider s s' wide [] old h) (
        told_now s' old (from_wider s s' wide [] old h),
        told_with s s' wide old (Mark c ∷ Says f ∷ []) place le (told_now s old h) g,
      )
  told_step s s' w old new' place wide (back n c f clash read alt) le last h g =
      let low : n < length old = slice_get_within old n (Mark c) read in
      let long : length (take n old) ≡ n = length-take-le n old (omega (arith, low)) in
      let front = told_front s [] old n c read h in
      let marked : List Item = take n old ++ Mark (next_choice w c) ∷ [] in
      let same : take n old ++ Mark (next_choice w c) ∷ Says f ∷ [] ≡ marked ++ Says f ∷ [] =
      sym (append_assoc (take n old) (Mark (next_choice w c) ∷ []) (Says f ∷ [])) in
      let here = told_now s (take n old) front in
      let there : facts_of marked ≡ facts_of (take n old) =
      facts_of-append (take n old) (Mark (next_choice w c) ∷ []) ∙ append-nil (facts_of (take n old)) in
      told_append s' [] (take n old) (Mark (next_choice w c) ∷ Says f ∷ [])
      (from_wider s s' wide [] (take n old) front) (
        by_wider s s' wide (facts_of (take n old)) here,
        subst (λ (fs : List (Fact ℕ)). AreToldBy first at table (fs ++ f ∷ []) (fs ++ f ∷ []) s') there
            (told_with s s' wide marked (Says f ∷ []) place
            (omega (
              arith,
              last,
              long,
              length-append (take n old) (Mark (next_choice w c) ∷ Says f ∷ []),
              length-append (take n old) (Mark (next_choice w c) ∷ []),
            ))
            (subst (λ (fs : List (Fact ℕ)). AreToldBy first at table fs fs s) (sym there) here)
            (subst (λ (is : List Item). AreToldBy first at table (facts_of is) (facts_of (drop place is)) s') same g)),
      )

-- ---- the start

start_puts : (at a b x c : ℕ) → list_any (puts_at x c) (facts_of (start at a b)) ≡ true → x ≡ at
start_puts at a b x c h =
    elim (or_cases (eqb at x && eqb a c) ((eqb at x && eqb b c) || false) h) [
      | inl one ↦ sym (eqb-true at x (and_parts (eqb at x) (eqb a c) one).0)
      | inr more ↦ elim (or_cases (eqb at x && eqb b c) false more) [
        | inl other ↦ sym (eqb-true at x (and_parts (eqb at x) (eqb b c) other).0)
        | inr none ↦ absurd (cc)
      ]
    ]

module _ (first at a b : ℕ) (table : List Shape) (trail : List Item) (count concepts : ℕ) (s : SeenSets)
    (is : trail ≡ start at a b) (noted : HasNoted at table (facts_of trail) (nothing_seen count concepts) s)
    (h : HasTold first at table (facts_of trail) (facts_of trail) (nothing_seen count concepts) s)
    (room : concepts ≡ concept_room count (length table)) where
  alone : (p q : Bool) → (p || false) ≡ true → (p || q) ≡ true
  alone true q h = refl
  alone false q h = cc

  bears_at_start : (c : ℕ) → BearsBy first at table (facts_of trail) (facts_of trail) s c
      → Bears first at table (trail ∷ []) c
  bears_at_start c (inl put) = inl (ever_now (gives_bearing at table c) trail [] put)
  bears_at_start c (inr given) =
      absurd
      (given.gives.is_other
      (start_puts at a b given.node given.concept
      (subst (λ (t : List Item). list_any (puts_at given.node given.concept) (facts_of t) ≡ true) is
      given.gives.is_given)))

  pub told_at_start : IsToldApart first at table (trail ∷ []) s
  told_at_start = record {
    limit = h.limit ∙ sym noted.at_node.limit;
    there_limit = h.there.limit ∙ room ∙ ap (λ (n : ℕ). concept_room n (length table)) (sym h.limit);
    all_noted = λ c lt ever.
        h.bearing c (omega (arith, lt, h.limit))
        (alone (list_any (gives_bearing at table c) (facts_of trail)) (holds (no_classes count) c) ever);
    none_else = λ c lt held. elim (h.bears c (omega (arith, lt, h.limit)) held) [
      | inl was ↦ absurd (both_ways (holds (no_classes count) c) (none_held count c) was)
      | inr fresh ↦ bears_at_start c fresh
    ];
    there = λ c lt.
        h.there.held c (omega (arith, lt, h.there.limit))
        ∙ ap (λ (t : Bool). list_any (puts_at at c) (facts_of trail) || t) (none_held concepts c);
    own = λ c lt held. elim (h.owned c (omega (arith, lt, h.there.limit)) held) [
      | inl was ↦ absurd (both_ways (holds (no_classes concepts) c) (none_held concepts c) was)
      | inr fresh ↦ record {
        later = [];
        trail = trail;
        earlier = [];
        run_is = refl;
        by_trail = fresh.0;
        was_not_there = refl;
      }
    ];
    tells = (λ tells. h.are_own tells (λ c lt held. none_held concepts c), λ own. h.still refl own);
    each =
        All-cons (AreTold first at table s) trail []
        (subst (AreTold first at table s) (sym is)
        (subst (λ (t : List Item). AreToldBy first at table (facts_of t) (facts_of t) s) is h.told))
        (All-nil (AreTold first at table s));
  }

-- ---- a step of a search

room_for_all : (classes concepts a : ℕ) → a < classes → concept_room classes concepts ≡ concepts
room_for_all classes concepts a lt =
    ap (λ (b : Bool). cond b 0 concepts)
    (false_from_ne_true (eqb classes 0) (λ none. omega (arith, eqb-true classes 0 none, lt)))

module _ (rules : RuleLists) (first at : ℕ) (old new : List Entry) (earlier : List (List Item)) (s s' : SeenSets)
    (listed : (x c : ℕ) → has (facts_of (items_of new)) x c ≡ true → c < length rules.table)
    (legal : IsLegal (context_in rules) (items_of old) (items_of new))
    (noted : HasNotedNew rules at (length old) new s s') (told : HasToldNew rules first at (length old) new s s')
    (was : IsToldApart first at rules.table (items_of old ∷ earlier) s) where
  abbrev table : List Shape
  table = rules.table

  abbrev place : ℕ
  place = min (length old) (length new - 1)

  abbrev some : List (Fact ℕ)
  some = facts_of (drop place (items_of new))

  abbrev before : List (List Item)
  before = items_of old ∷ earlier

  abbrev run : List (List Item)
  run = items_of new ∷ before

  within : place ≤ length (items_of old)
  within = omega (arith, length-map old item_of)

  last : place ≤ length (items_of new) - 1
  last = omega (arith, length-map new item_of)

  wide : IsWider s s'
  wide = wider first at table (facts_in new) some s s' told

  -- what was put there
  there_now : (c : ℕ) → c < s'.there.limit → holds s'.there c ≡ was_ever (puts_at at c) run
  there_now c lt =
      let below : c < s.there.limit = omega (arith, lt, told.there.limit) in
      still_ever (puts_at at c) place (context_in rules) (items_of old) (items_of new) earlier (holds s.there c)
      (holds s'.there c) legal within last (was.there c below) (told.there.held c below)

  bearing_now : (a : ℕ) → a < s'.bearing.limit → was_ever (gives_bearing at table a) run ≡ true
      → holds s'.bearing a ≡ true
  bearing_now a lt ever =
      let p = gives_bearing at table a in
      let fresh = list_any p some in
      let below : a < s.bearing.limit = omega (arith, lt, told.limit) in
      elim (or_cases fresh (was_ever p before)
      (still_ever p place (context_in rules) (items_of old) (items_of new) earlier (was_ever p before)
      (fresh || was_ever p before) legal within last refl refl ∙ ever)) [
        | inl put ↦ told.bearing a below (or_left fresh (holds s.bearing a) put)
        | inr held ↦ told.bearing a below (or_right fresh (holds s.bearing a) (was.all_noted a below held))
      ]

  -- a node without a concept that may be noted as its own one has none
  none_there : (a x c : ℕ) → a < s'.bearing.limit → HasNoOwn s' (facts_in new) x c → (own : ℕ)
      → has (facts_of (items_of new)) x own ≡ true → ¬ (own ≡ 0) → ¬ (own ≡ c)
      → was_ever (puts_at at own) run ≡ true
  none_there a x c lt none own held not_top other =
      let here : has (facts_in new) x own ≡ true =
      subst (λ (fs : List (Fact ℕ)). has fs x own ≡ true) (facts-items new) held in
      let limit : s'.there.limit ≡ length rules.table =
      told.there.limit ∙ was.there_limit
      ∙ room_for_all s.bearing.limit (length rules.table) a (omega (arith, lt, told.limit)) in
      let below : own < s'.there.limit = omega (arith, listed x own held, limit) in
      sym (there_now own below) ∙ not_own_is_there s' own c (none own here) not_top other below

  bears_now : (a : ℕ) → a < s'.bearing.limit → BearsBy first at table (facts_in new) some s' a
      → Bears first at table run a
  bears_now a lt (inl put) =
      let p = gives_bearing at table a in inl (ever_now p (items_of new) before (any_of_all p place (items_of new) put))
  bears_now a lt (inr given) =
      inr
      (not_set_apart first at table a run (items_of new) given.node given.concept (contains_first (items_of new) before)
      given.gives.is_no_first
      (any_of_all (puts_at given.node given.concept) place (items_of new) given.gives.is_given) given.gives.shape
      (none_there a given.node given.concept lt given.has_none))

  own_now : (c : ℕ) → IsOwnBy first at table (facts_in new) some c → was_ever (puts_at at c) before ≡ false
      → IsOwnIn first at table run c
  own_now c own none = record {
    later = [];
    trail = items_of new;
    earlier = before;
    run_is = refl;
    by_trail = record {
      node = own.node;
      concept = own.concept;
      class = own.class;
      gives = record {
        is_no_first = own.gives.is_no_first;
        is_other = own.gives.is_other;
        is_given = any_of_all (puts_at own.node own.concept) place (items_of new) own.gives.is_given;
        shape = own.gives.shape;
      };
      holds_it =
          subst (λ (fs : List (Fact ℕ)). has fs own.node c ≡ true) (sym (facts-items new)) own.holds_it;
      is_not_top = own.is_not_top;
      is_another = own.is_another;
    };
    was_not_there = none;
  }

  own_still : (c : ℕ) → IsOwnIn first at table before c → IsOwnIn first at table run c
  own_still c own = record {
    later = items_of new ∷ own.later;
    trail = own.trail;
    earlier = own.earlier;
    run_is = ap (λ (ts : List (List Item)). items_of new ∷ ts) own.run_is;
    by_trail = own.by_trail;
    was_not_there = own.was_not_there;
  }

  told_now_by : AreToldBy first at table (facts_of (items_of new)) some s'
  told_now_by =
      subst (λ (fs : List (Fact ℕ)). AreToldBy first at table fs some s') (sym (facts-items new)) told.told

  pub told_after : IsToldApart first at table run s'
  told_after = record {
    limit = told.limit ∙ was.limit ∙ sym noted.at_node.limit;
    there_limit =
        told.there.limit ∙ was.there_limit ∙ ap (λ (n : ℕ). concept_room n (length table)) (sym told.limit);
    all_noted = bearing_now;
    none_else = λ a lt held. elim (told.bears a (omega (arith, lt, told.limit)) held) [
      | inl earlier' ↦
          bears_later first at table a (items_of new) before (was.none_else a (omega (arith, lt, told.limit)) earlier')
      | inr fresh ↦ bears_now a lt fresh
    ];
    there = there_now;
    own = λ c lt held. elim (told.owned c (omega (arith, lt, told.there.limit)) held) [
      | inl earlier' ↦ own_still c (was.own c (omega (arith, lt, told.there.limit)) earlier')
      | inr fresh ↦
          let below : c < s.there.limit = omega (arith, lt, told.there.limit) in
          own_now c fresh.0 (sym (was.there c below) ∙ fresh.1)
    ];
    tells = (
      λ tells. told.are_own tells (was.tells.0 (told.before tells)),
      λ own. told.still (was.tells.1 (own_before first at table (facts_in new) some s s' told own)) own,
    );
    each =
        All-cons (AreTold first at table s') (items_of new) before
        (told_step first at table s s' (context_in rules) (items_of old) (items_of new) place wide legal within last
        (All-head (AreTold first at table s) (items_of old) earlier was.each) told_now_by)
        (All-weaker (AreTold first at table s) (AreTold first at table s')
        (λ t. from_wider first at table s s' wide [] t) before was.each);
  }
