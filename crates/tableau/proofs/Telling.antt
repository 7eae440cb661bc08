-- What is noted to tell other nodes apart from the node in question.
use Rattle.std.proofs.Common.{◌≡◌, ℕ, suc, ◌+◌, ◌<◌, ◌≤◌, ◌&&◌, ◌||◌, ltb, not, Bool, true, false, List, []}
use Rattle.std.proofs.Common.{◌∷◌, ◌++◌, drop, length, Some, refl, ap, ◌∙◌, sym, subst, arith, inl, inr, eq-eqb}
use Rattle.std.specs.List.{list_any, slice_get}
use Rattle.std.specs.Prelude.{◌==◌}
use Rattle.std.proofs.lemmas.Bool.{and_parts, and_from, eqb-true, ltb-true, false_from_ne_true, or_cases}
use Rattle.std.proofs.lemmas.Bool.{or_left, or_right, not-true, lt-ltb, both_ways}
use Rattle.std.proofs.lemmas.List.{drop_all}
use Rattle.std.proofs.lemmas.List.Folds.{list_any-append}
use Rattle.calculus_specs.specs.Shape.{Shape, shape_of}
use Rattle.calculus_specs.specs.Shape.Shape.{not_name}
use Rattle.calculus_specs.specs.declared.facts.Fact.{Fact}
use Rattle.calculus_specs.specs.declared.facts.Fact.TheVariants.{Has}
use Rattle.axiom_sets.specs.Sets.{Limited}
use Rattle.tableau_specs.specs.declared.Item.{Item}
use Rattle.tableau_specs.specs.declared.Item.TheVariants.{Fact as Says, Mark}
use Rattle.tableau_specs.specs.Items.{facts_of}
use Rattle.search_laws.specs.Runs.{puts_at}
use Rattle.tableau.specs.Seen.{SeenSets, holds, complement_of, union_parts, is_one, is_complement, has_complement}
use Rattle.tableau.specs.Seen.{gives_class, gives_complement, gives_bearing, HasGained, HasNoted, HasOwn, AreOwn}
use Rattle.tableau.specs.Seen.{HasTold, HasNoOwn, GivesComplement, BearsBy, IsOwnBy}
use Rattle.tableau.specs.Telling.{TellAsBefore, NoteAsBefore, HasPutThere, HasToldThere, HasToldOther, IsOwnConcept}
use Rattle.tableau.specs.Telling.{has_room, IsOwnBeside}
use Rattle.tableau.proofs.Bearing.{complement_shape, complement_found, none_later}
use Rattle.tableau.proofs.Noting.{drop_at, gains_none, nothing_noted}

or_none : (b : Bool) → (b || false) ≡ b
or_none true = refl
or_none false = refl

-- ---- facts that tell nothing

pub nothing_told : (first at : ℕ) (table : List Shape) (all fs : List (Fact ℕ)) (s : SeenSets)
    → ((a : ℕ) → list_any (gives_bearing at table a) fs ≡ false)
    → ((x c : ℕ) → list_any (puts_at x c) fs ≡ false)
    → HasTold first at table all fs s s
nothing_told first at table all fs s bearing puts = record {
  before = λ t. t;
  limit = refl;
  bearing = λ a lt h. sym (ap (λ (b : Bool). b || holds s.bearing a) (bearing a)) ∙ h;
  bears = λ a lt h. inl h;
  there = gains_none s.there s.there _ (puts at) refl;
  own = λ c lt h. h;
  owned = λ c lt h. inl h;
  are_own = λ t h. h;
  still = λ t h. t;
  told = λ x c a high other lt put sh out. absurd (let k = puts x c in cc);
}

-- ---- one concept

module _ (first at : ℕ) (table : List Shape) (all : List (Fact ℕ)) (node concept : ℕ) (old new : SeenSets) where
  -- the node in question
  pub told_there : node ≡ at → HasToldThere table concept old new
      → HasTold first at table all (Has node concept ∷ []) old new
  told_there there h =
      let is_there : (node == at) ≡ true = eq-eqb node at there in
      record {
        before = h.puts.before;
        limit = h.bearing.limit;
        bearing = λ a lt held.
            let p = is_complement table a concept || has_complement table a (union_parts (shape_of table concept)) in
            h.bearing.held a lt
            ∙ sym (ap (λ (b : Bool). b || holds old.bearing a)
            (or_none (gives_bearing at table a (Has node concept)) ∙ ap (λ (b : Bool). b && p) is_there))
            ∙ held;
        bears = λ a lt held.
            let p = is_complement table a concept || has_complement table a (union_parts (shape_of table concept)) in
            elim (or_cases p (holds old.bearing a) (sym (h.bearing.held a lt) ∙ held)) [
              | inl here ↦ inr (inl
                  (or_none (gives_bearing at table a (Has node concept)) ∙ ap (λ (b : Bool). b && p) is_there ∙ here))
              | inr was ↦ inl was
            ];
        there = record {
          limit = h.puts.there.limit;
          held = λ c lt.
              h.puts.there.held c lt
              ∙ ap (λ (b : Bool). b || holds old.there c)
              (sym (or_none (puts_at at c (Has node concept)) ∙ ap (λ (b : Bool). b && (concept == c)) is_there));
        };
        own = λ c lt held. ap (λ (s : Limited). holds s c) h.puts.own ∙ held;
        owned = λ c lt held. inl (sym (ap (λ (s : Limited). holds s c) h.puts.own) ∙ held);
        are_own = h.puts.are_own;
        still = h.puts.still;
        told = λ x c a high other lt put sh out.
            let t = and_parts (node == x) (concept == c) (sym (or_none (puts_at x c (Has node concept))) ∙ put) in
            absurd (other (sym (eqb-true node x t.0) ∙ there));
      }

  given_itself : list_any (puts_at node concept) (Has node concept ∷ []) ≡ true
  given_itself =
      or_left (node == node && concept == concept) false
      (and_from (node == node) (concept == concept) (eq-eqb node node refl) (eq-eqb concept concept refl))

  -- another node that is no first one
  pub told_other : ¬ (node ≡ at) → first ≤ node → HasToldOther table all node concept old new
      → HasTold first at table all (Has node concept ∷ []) old new
  told_other elsewhere no_first h =
      let not_there : (node == at) ≡ false = false_from_ne_true (node == at) (λ k. elsewhere (eqb-true node at k)) in
      record {
        before = λ t. sym h.tells_apart ∙ t;
        limit = h.limit;
        bearing = λ a lt held.
            let p = is_complement table a concept || has_complement table a (union_parts (shape_of table concept)) in
            h.bearing a lt
            (sym (ap (λ (b : Bool). b || holds old.bearing a)
            (or_none (gives_bearing at table a (Has node concept)) ∙ ap (λ (b : Bool). b && p) not_there))
            ∙ held);
        bears = λ a lt held. elim (h.bears a lt held) [
          | inl was ↦ inl was
          | inr fresh ↦ inr (inr (record {
            node = node;
            concept = concept;
            gives = gives a fresh.0;
            has_none =
                none_later old new all node concept (ap (λ (s : Limited). s.limit) h.there)
                (λ d below was. ap (λ (s : Limited). holds s d) h.there ∙ was) fresh.1;
          }))
        ];
        there =
            gains_none old.there new.there _
            (λ c. or_none (puts_at at c (Has node concept)) ∙ ap (λ (b : Bool). b && (concept == c)) not_there)
            h.there;
        own = h.own;
        owned = λ c lt held. elim (h.owned c lt held) [
          | inl was ↦ inl was
          | inr fresh ↦ inr (own_by c fresh.0, fresh.1)
        ];
        are_own = λ t. h.are_own;
        still = λ t are. h.tells_apart ∙ t;
        told = λ x c a high other lt put sh out.
            let t = and_parts (node == x) (concept == c) (sym (or_none (puts_at x c (Has node concept))) ∙ put) in
            subst (λ (y : ℕ). HasOwn new all y c) (eqb-true node x t.0)
            (subst (HasOwn new all node) (eqb-true concept c t.1)
            (h.told a (omega (arith, lt, h.limit))
            (ap (shape_of table) (eqb-true concept c t.1) ∙ sh) out));
      }
    where
      gives : (a : ℕ) → shape_of table concept ≡ not_name a
          → GivesComplement first at table (Has node concept ∷ []) node concept a
      gives a sh = record { is_no_first = no_first; is_other = elsewhere; is_given = given_itself; shape = sh }

      own_by : (c : ℕ) → IsOwnBeside table all node concept c
          → IsOwnBy first at table all (Has node concept ∷ []) c
      own_by c own = record {
        node = node;
        concept = concept;
        class = own.class;
        gives = gives own.class own.shape;
        holds_it = own.holds_it;
        is_not_top = own.is_not_top;
        is_another = own.is_another;
      }

  -- a first node
  pub told_first : ¬ (node ≡ at) → node < first → new ≡ old
      → HasTold first at table all (Has node concept ∷ []) old new
  told_first elsewhere low is =
      let not_there : (node == at) ≡ false = false_from_ne_true (node == at) (λ k. elsewhere (eqb-true node at k)) in
      subst (HasTold first at table all (Has node concept ∷ []) old) (sym is) (record {
        before = λ t. t;
        limit = refl;
        bearing = λ a lt held.
            let p = is_complement table a concept || has_complement table a (union_parts (shape_of table concept)) in
            sym (ap (λ (b : Bool). b || holds old.bearing a)
            (or_none (gives_bearing at table a (Has node concept)) ∙ ap (λ (b : Bool). b && p) not_there))
            ∙ held;
        bears = λ a lt held. inl held;
        there =
            gains_none old.there old.there _
            (λ c. or_none (puts_at at c (Has node concept)) ∙ ap (λ (b : Bool). b && (concept == c)) not_there)
            refl;
        own = λ c lt held. held;
        owned = λ c lt held. inl held;
        are_own = λ t h. h;
        still = λ t h. t;
        told = λ x c a high other lt put sh out.
            let t = and_parts (node == x) (concept == c) (sym (or_none (puts_at x c (Has node concept))) ∙ put) in
            absurd (omega (arith, high, low, eqb-true node x t.0));
      })

-- ---- one after the other

pub own_later : (s s' : SeenSets) (fs : List (Fact ℕ)) (x c : ℕ)
    → ((d : ℕ) → d < s.there.limit → holds s.own d ≡ true → holds s'.own d ≡ true)
    → s'.there.limit ≡ s.there.limit
    → HasOwn s fs x c → HasOwn s' fs x c
own_later s s' fs x c grows limit own = record {
  concept = own.concept;
  holds_it = own.holds_it;
  is_own = grows own.concept own.is_within own.is_own;
  is_within = omega (arith, own.is_within, limit);
  is_not_top = own.is_not_top;
  is_another = own.is_another;
}

-- where the node in question has no own concept of another node, it had none before
pub own_before : (first at : ℕ) (table : List Shape) (all some : List (Fact ℕ)) (old new : SeenSets)
    → HasTold first at table all some old new → AreOwn new → AreOwn old
own_before first at table all some old new h are c lt held =
    false_from_ne_true (holds old.there c) (λ was.
    both_ways (holds new.there c) (are c (omega (arith, lt, h.there.limit)) (h.own c lt held))
    (h.there.held c lt ∙ or_right (list_any (puts_at at c) some) (holds old.there c) was))

module _ (first at : ℕ) (table : List Shape) (all fs gs : List (Fact ℕ)) (old mid new : SeenSets) where
  gives_early : (x c a : ℕ) → GivesComplement first at table fs x c a → GivesComplement first at table (fs ++ gs) x c a
  gives_early x c a g = record {
    is_no_first = g.is_no_first;
    is_other = g.is_other;
    is_given =
        list_any-append (puts_at x c) fs gs
        ∙ or_left (list_any (puts_at x c) fs) (list_any (puts_at x c) gs) g.is_given;
    shape = g.shape;
  }

  gives_late : (x c a : ℕ) → GivesComplement first at table gs x c a → GivesComplement first at table (fs ++ gs) x c a
  gives_late x c a g = record {
    is_no_first = g.is_no_first;
    is_other = g.is_other;
    is_given =
        list_any-append (puts_at x c) fs gs
        ∙ or_right (list_any (puts_at x c) fs) (list_any (puts_at x c) gs) g.is_given;
    shape = g.shape;
  }

  bears_early : HasTold first at table all gs mid new → (a : ℕ) → BearsBy first at table all fs mid a
      → BearsBy first at table all (fs ++ gs) new a
  bears_early k a (inl put) =
      let p = gives_bearing at table a in
      inl (list_any-append p fs gs ∙ or_left (list_any p fs) (list_any p gs) put)
  bears_early k a (inr given) = inr (record {
    node = given.node;
    concept = given.concept;
    gives = gives_early given.node given.concept a given.gives;
    has_none =
        none_later mid new all given.node given.concept k.there.limit
        (λ d lt was. k.there.held d lt ∙ or_right (list_any (puts_at at d) gs) (holds mid.there d) was) given.has_none;
  })

  bears_late : (a : ℕ) → BearsBy first at table all gs new a → BearsBy first at table all (fs ++ gs) new a
  bears_late a (inl put) =
      let p = gives_bearing at table a in
      inl (list_any-append p fs gs ∙ or_right (list_any p fs) (list_any p gs) put)
  bears_late a (inr given) = inr (record {
    node = given.node;
    concept = given.concept;
    gives = gives_late given.node given.concept a given.gives;
    has_none = given.has_none;
  })

  own_early : (c : ℕ) → IsOwnBy first at table all fs c → IsOwnBy first at table all (fs ++ gs) c
  own_early c own = record {
    node = own.node;
    concept = own.concept;
    class = own.class;
    gives = gives_early own.node own.concept own.class own.gives;
    holds_it = own.holds_it;
    is_not_top = own.is_not_top;
    is_another = own.is_another;
  }

  own_late : (c : ℕ) → IsOwnBy first at table all gs c → IsOwnBy first at table all (fs ++ gs) c
  own_late c own = record {
    node = own.node;
    concept = own.concept;
    class = own.class;
    gives = gives_late own.node own.concept own.class own.gives;
    holds_it = own.holds_it;
    is_not_top = own.is_not_top;
    is_another = own.is_another;
  }

  pub told_then : HasTold first at table all fs old mid → HasTold first at table all gs mid new
      → HasTold first at table all (fs ++ gs) old new
  told_then h k = record {
    before = λ t. h.before (k.before t);
    limit = k.limit ∙ h.limit;
    bearing = λ a lt held.
        let p = gives_bearing at table a in
        elim (or_cases (list_any p fs || list_any p gs) (holds old.bearing a)
        (sym (ap (λ (b : Bool). b || holds old.bearing a) (list_any-append p fs gs)) ∙ held)) [
          | inl some ↦ elim (or_cases (list_any p fs) (list_any p gs) some) [
            | inl early ↦
                k.bearing a (omega (arith, lt, h.limit))
                (or_right (list_any p gs) (holds mid.bearing a)
                (h.bearing a lt (or_left (list_any p fs) (holds old.bearing a) early)))
            | inr late ↦
                k.bearing a (omega (arith, lt, h.limit)) (or_left (list_any p gs) (holds mid.bearing a) late)
          ]
          | inr was ↦
              k.bearing a (omega (arith, lt, h.limit))
              (or_right (list_any p gs) (holds mid.bearing a)
              (h.bearing a lt (or_right (list_any p fs) (holds old.bearing a) was)))
        ];
    bears = λ a lt held.
        elim (k.bears a (omega (arith, lt, h.limit)) held) [
          | inl before ↦ elim (h.bears a lt before) [
            | inl was ↦ inl was
            | inr early ↦ inr (bears_early k a early)
          ]
          | inr late ↦ inr (bears_late a late)
        ];
    there = record {
      limit = k.there.limit ∙ h.there.limit;
      held = λ c lt.
          let p = puts_at at c in
          k.there.held c (omega (arith, lt, h.there.limit))
          ∙ ap (λ (b : Bool). list_any p gs || b) (h.there.held c lt)
          ∙ turned (list_any p fs) (list_any p gs) (holds old.there c)
          ∙ sym (ap (λ (b : Bool). b || holds old.there c) (list_any-append p fs gs));
    };
    own = λ c lt held. k.own c (omega (arith, lt, h.there.limit)) (h.own c lt held);
    owned = λ c lt held.
        elim (k.owned c (omega (arith, lt, h.there.limit)) held) [
          | inl before ↦ elim (h.owned c lt before) [
            | inl was ↦ inl was
            | inr early ↦ inr (own_early c early.0, early.1)
          ]
          | inr late ↦ inr (own_late c late.0, not_there_before c lt late.1)
        ];
    are_own = λ t own. k.are_own t (h.are_own (k.before t) own);
    still = λ t own. k.still (h.still t (own_before first at table all gs mid new k own)) own;
    told = λ x c a high other lt put sh out.
        elim (or_cases (list_any (puts_at x c) fs) (list_any (puts_at x c) gs)
        (sym (list_any-append (puts_at x c) fs gs) ∙ put)) [
          | inl early ↦
              own_later mid new all x c k.own k.there.limit
              (h.told x c a high other (omega (arith, lt, k.limit)) early sh
              (not_before a (omega (arith, lt, k.limit)) out))
          | inr late ↦ k.told x c a high other lt late sh out
        ];
  }
    where
      turned : (a b c : Bool) → (b || (a || c)) ≡ ((a || b) || c)
      turned true true c = refl
      turned true false c = refl
      turned false true c = refl
      turned false false c = refl

      -- what was not there then was not there before
      not_there_before : (c : ℕ) → c < old.there.limit → holds mid.there c ≡ false → holds old.there c ≡ false
      not_there_before c lt out = false_from_ne_true (holds old.there c) (λ was.
          both_ways (holds mid.there c) out
          (h.there.held c lt ∙ or_right (list_any (puts_at at c) fs) (holds old.there c) was))

      not_before : (a : ℕ) → a < mid.bearing.limit → holds new.bearing a ≡ false → holds mid.bearing a ≡ false
      not_before a lt out = false_from_ne_true (holds mid.bearing a) (λ held.
          (let l = k.bearing a lt (or_right (list_any (gives_bearing at table a) gs) (holds mid.bearing a) held) in cc))

-- ---- one item more of a list, of which the rest is still to be noted

pub told_next : (first at : ℕ) (table : List Shape) (all : List (Fact ℕ)) (items : List Item) (place : ℕ) (item : Item)
    (now next later : SeenSets)
    → slice_get items place ≡ Some item → HasTold first at table all (facts_of (item ∷ [])) now next
    → HasTold first at table all (facts_of (drop (place + 1) items)) next later
    → HasTold first at table all (facts_of (drop place items)) now later
told_next first at table all items place item now next later read one rest =
    let k : place + 1 ≡ suc place = omega arith in
    subst (λ (fs : List (Fact ℕ)). HasTold first at table all fs now later)
    (front item (drop (suc place) items) ∙ ap facts_of (sym (drop_at items place item read)))
    (told_then first at table all (facts_of (item ∷ [])) (facts_of (drop (suc place) items)) now next later one
    (subst (λ (n : ℕ). HasTold first at table all (facts_of (drop n items)) next later) k rest))
  where
    front : (i : Item) (is : List Item) → facts_of (i ∷ []) ++ facts_of is ≡ facts_of (i ∷ is)
    front (Says f) is = refl
    front (Mark c) is = refl

-- nothing is left to be noted
pub told_all : (first at : ℕ) (table : List Shape) (all : List (Fact ℕ)) (items : List Item) (place : ℕ) (s : SeenSets)
    → length items ≤ place → HasTold first at table all (facts_of (drop place items)) s s
told_all first at table all items place s past =
    subst (λ (is : List Item). HasTold first at table all (facts_of is) s s) (sym (drop_all place items past))
    (nothing_told first at table all [] s (λ a. refl) (λ x c. refl))

-- ---- what is put

-- a concept of the node in question is no own one of another node, as long as it is known that none is
pub put_there : (concept : ℕ) (old new : SeenSets) (is_own : Bool) → HasGained (λ c. concept == c) old.there new.there
    → new.own ≡ old.own → old.own.limit ≡ old.there.limit
    → is_own ≡ (ltb concept old.own.limit && holds old.own concept)
    → new.tells_apart ≡ (old.tells_apart && not is_own) → HasPutThere concept old new
put_there concept old new is_own gained own limits is tells = record {
  before = λ t. (and_parts old.tells_apart (not is_own) (sym tells ∙ t)).0;
  there = gained;
  own = own;
  are_own = λ t was c lt held.
      let before : holds old.own c ≡ true = sym (ap (λ (s : Limited). holds s c) own) ∙ held in
      let below : c < old.there.limit = omega (arith, lt, gained.limit) in
      let none : is_own ≡ false = not-true is_own (and_parts old.tells_apart (not is_own) (sym tells ∙ t)).1 in
      gained.held c below ∙ ap (λ (b : Bool). b || holds old.there c) (other none c below before) ∙ was c below before;
  still = λ t are. tells ∙ and_from old.tells_apart (not is_own) t (ap not (none_is are));
}
  where
    other : is_own ≡ false → (c : ℕ) → c < old.there.limit → holds old.own c ≡ true → (concept == c) ≡ false
    other none c below before = false_from_ne_true (concept == c) (λ h.
        (let e = eqb-true concept c h in
        both_ways is_own none
        (is ∙ and_from (ltb concept old.own.limit) (holds old.own concept)
        (lt-ltb concept old.own.limit (omega (arith, e, below, limits))) (ap (holds old.own) e ∙ before))))

    none_is : AreOwn new → is_own ≡ false
    none_is are = false_from_ne_true is_own (λ one.
        (let t = and_parts (ltb concept old.own.limit) (holds old.own concept) (sym is ∙ one) in
        let below : concept < old.there.limit = omega (arith, ltb-true concept old.own.limit t.0, limits) in
        both_ways (holds new.there concept)
        (are concept (omega (arith, below, gained.limit)) (ap (λ (s : Limited). holds s concept) own ∙ t.1))
        (gained.held concept below
        ∙ or_left (concept == concept) (holds old.there concept) (eq-eqb concept concept refl))))

-- first one test and then another
pub gains_either : (p q : ℕ → Bool) (old mid new : Limited) → HasGained p old mid → HasGained q mid new
    → HasGained (λ a. p a || q a) old new
gains_either p q old mid new h k = record {
  limit = k.limit ∙ h.limit;
  held = λ a lt.
      k.held a (omega (arith, lt, h.limit)) ∙ ap (λ (b : Bool). q a || b) (h.held a lt)
      ∙ turned (p a) (q a) (holds old a);
}
  where
    turned : (x y b : Bool) → (y || (x || b)) ≡ ((x || y) || b)
    turned true true b = refl
    turned true false b = refl
    turned false true b = refl
    turned false false b = refl

-- ---- an own concept of another node

module _ (table : List Shape) (fs : List (Fact ℕ)) (node concept : ℕ) (old new : SeenSets) where
  -- it is found
  pub told_by_own : (own : ℕ) → has_room old.bearing.limit (complement_of (shape_of table concept)) ≡ true
      → IsOwnConcept old fs node concept own → HasGained (λ c. own == c) old.own new.own
      → old.own.limit ≡ old.there.limit → new.bearing ≡ old.bearing → new.there ≡ old.there
      → new.tells_apart ≡ old.tells_apart → HasToldOther table fs node concept old new
  told_by_own own room is gained limits bearing there tells =
      let t =
      and_parts ((not (own == 0) && not (own == concept)) && ltb own old.there.limit) (not (holds old.there own))
      is.may_be in
      let u = and_parts (not (own == 0) && not (own == concept)) (ltb own old.there.limit) t.0 in
      let v = and_parts (not (own == 0)) (not (own == concept)) u.0 in
      let below : own < old.there.limit = ltb-true own old.there.limit u.1 in
      let there_limit : new.there.limit ≡ old.there.limit = ap (λ (s : Limited). s.limit) there in
      record {
        tells_apart = tells;
        there = there;
        limit = ap (λ (s : Limited). s.limit) bearing;
        bearing = λ a lt held. ap (λ (s : Limited). holds s a) bearing ∙ held;
        bears = λ a lt held. inl (sym (ap (λ (s : Limited). holds s a) bearing) ∙ held);
        own = λ c lt held.
            gained.held c (omega (arith, lt, limits)) ∙ or_right (own == c) (holds old.own c) held;
        owned = λ c lt held.
            elim (or_cases (own == c) (holds old.own c) (sym (gained.held c (omega (arith, lt, limits))) ∙ held)) [
              | inl here ↦ inr (
                subst (IsOwnBeside table fs node concept) (eqb-true own c here) (is_beside v),
                ap (holds old.there) (sym (eqb-true own c here)) ∙ not-true (holds old.there own) t.1,
              )
              | inr before ↦ inl before
            ];
        are_own = λ was c lt held.
            ap (λ (s : Limited). holds s c) there
            ∙ still c (omega (arith, lt, there_limit)) (not-true (holds old.there own) t.1) was held;
        told = λ a lt sh out. record {
          concept = own;
          holds_it = is.holds_it;
          is_own =
              gained.held own (omega (arith, below, limits))
              ∙ or_left (own == own) (holds old.own own) (eq-eqb own own refl);
          is_within = omega (arith, below, there_limit);
          is_not_top = (is_beside v).is_not_top;
          is_another = (is_beside v).is_another;
        };
      }
    where
      differs : (b : Bool) → b ≡ true → not b ≡ true → ⊥
      differs true h k = cc
      differs false h k = cc

      is_beside : (not (own == 0) ≡ true) × (not (own == concept) ≡ true) → IsOwnBeside table fs node concept own
      is_beside v =
          let found = complement_found old.bearing.limit (shape_of table concept) room in
          record {
            class = found.0;
            shape = found.1;
            holds_it = is.holds_it;
            is_not_top = λ e. differs (own == 0) (eq-eqb own 0 e) v.0;
            is_another = λ e. differs (own == concept) (eq-eqb own concept e) v.1;
          }

      still : (c : ℕ) → c < old.there.limit → holds old.there own ≡ false → AreOwn old → holds new.own c ≡ true
          → holds old.there c ≡ false
      still c lt out was held =
          elim (or_cases (own == c) (holds old.own c) (sym (gained.held c (omega (arith, lt, limits))) ∙ held)) [
            | inl here ↦ ap (holds old.there) (sym (eqb-true own c here)) ∙ out
            | inr before ↦ was c lt before
          ]

  -- there is none
  pub told_by_class : HasNoOwn old fs node concept
      → HasGained (λ a. is_complement table a concept) old.bearing new.bearing → new.own ≡ old.own
      → new.there ≡ old.there → new.tells_apart ≡ old.tells_apart → HasToldOther table fs node concept old new
  told_by_class none gained own there tells = record {
    tells_apart = tells;
    there = there;
    limit = gained.limit;
    bearing = λ a lt held. gained.held a lt ∙ or_right (is_complement table a concept) (holds old.bearing a) held;
    bears = λ a lt held.
        elim (or_cases (is_complement table a concept) (holds old.bearing a) (sym (gained.held a lt) ∙ held)) [
          | inl one ↦ inr (complement_shape a (shape_of table concept) one, none)
          | inr was ↦ inl was
        ];
    own = λ c lt held. ap (λ (s : Limited). holds s c) own ∙ held;
    owned = λ c lt held. inl (sym (ap (λ (s : Limited). holds s c) own) ∙ held);
    are_own = λ was c lt held.
        ap (λ (s : Limited). holds s c) there
        ∙ was c (omega (arith, lt, ap (λ (s : Limited). s.limit) there))
        (sym (ap (λ (s : Limited). holds s c) own) ∙ held);
    told = λ a lt sh out.
        let is : is_complement table a concept ≡ true =
        ap (λ (s : Shape). is_one a (complement_of s)) sh ∙ eq-eqb a a refl in
        absurd (let k =
        gained.held a lt ∙ or_left (is_complement table a concept) (holds old.bearing a) is in
        cc);
  }

  -- the concept is no complement of a class for which there is room
  pub told_by_other : has_room old.bearing.limit (complement_of (shape_of table concept)) ≡ false → new ≡ old
      → HasToldOther table fs node concept old new
  told_by_other no_room is = subst (HasToldOther table fs node concept old) (sym is) (record {
    tells_apart = refl;
    there = refl;
    limit = refl;
    bearing = λ a lt held. held;
    bears = λ a lt held. inl held;
    own = λ c lt held. held;
    owned = λ c lt held. inl held;
    are_own = λ was. was;
    told = λ a lt sh out.
        absurd
        (both_ways (has_room old.bearing.limit (complement_of (shape_of table concept))) no_room
        (ap (λ (s : Shape). has_room old.bearing.limit (complement_of s)) sh ∙ lt-ltb a old.bearing.limit lt));
  })

-- ---- what stays

module _ (at : ℕ) (table : List Shape) (fs : List (Fact ℕ)) (old mid new : SeenSets) where
  pub noted_still : HasNoted at table fs old mid → NoteAsBefore mid new → HasNoted at table fs old new
  noted_still h same = record {
    at_node = subst (HasGained (λ a. list_any (gives_class at table a) fs) old.at_node) (sym same.at_node) h.at_node;
    complements =
        subst (HasGained (λ a. list_any (gives_complement at table a) fs) old.complements) (sym same.complements)
        h.complements;
    bare = same.bare ∙ h.bare;
  }

  pub told_since : (first : ℕ) (all : List (Fact ℕ)) → TellAsBefore old mid → HasTold first at table all fs mid new
      → HasTold first at table all fs old new
  told_since first all same h =
      let bearing_limit : mid.bearing.limit ≡ old.bearing.limit = ap (λ (s : Limited). s.limit) same.bearing in
      let there_limit : mid.there.limit ≡ old.there.limit = ap (λ (s : Limited). s.limit) same.there in
      record {
        before = λ t. sym same.tells_apart ∙ h.before t;
        limit = h.limit ∙ bearing_limit;
        bearing = λ a lt held.
            h.bearing a (omega (arith, lt, bearing_limit))
            (ap (λ (s : Limited). list_any (gives_bearing at table a) fs || holds s a) same.bearing ∙ held);
        bears = λ a lt held. elim (h.bears a (omega (arith, lt, bearing_limit)) held) [
          | inl was ↦ inl (sym (ap (λ (s : Limited). holds s a) same.bearing) ∙ was)
          | inr fresh ↦ inr fresh
        ];
        there = subst (λ (s : Limited). HasGained (λ c. list_any (puts_at at c) fs) s new.there) same.there h.there;
        own = λ c lt held.
            h.own c (omega (arith, lt, there_limit)) (ap (λ (s : Limited). holds s c) same.own ∙ held);
        owned = λ c lt held. elim (h.owned c (omega (arith, lt, there_limit)) held) [
          | inl was ↦ inl (sym (ap (λ (s : Limited). holds s c) same.own) ∙ was)
          | inr fresh ↦ inr (fresh.0, sym (ap (λ (s : Limited). holds s c) same.there) ∙ fresh.1)
        ];
        still = λ t are. h.still (same.tells_apart ∙ t) are;
        are_own = λ t was.
            h.are_own t (λ c lt held.
            ap (λ (s : Limited). holds s c) same.there
            ∙ was c (omega (arith, lt, there_limit)) (sym (ap (λ (s : Limited). holds s c) same.own) ∙ held));
        told = h.told;
      }

-- a concept of the node in question, once both sets are put
pub told_by_both : (table : List Shape) (concept : ℕ) (old new : SeenSets) (mid last : Limited)
    → HasGained (λ a. is_complement table a concept) old.bearing mid
    → HasGained (λ a. has_complement table a (union_parts (shape_of table concept))) mid last
    → new.bearing ≡ last → HasPutThere concept old new → HasToldThere table concept old new
told_by_both table concept old new mid last one other is puts = record {
  puts = puts;
  bearing =
      subst
      (HasGained (λ a. is_complement table a concept || has_complement table a (union_parts (shape_of table concept)))
      old.bearing)
      (sym is)
      (gains_either (λ a. is_complement table a concept)
      (λ a. has_complement table a (union_parts (shape_of table concept))) old.bearing mid last one other);
}

-- ---- what the functions cite together

-- an item of a trail
pub ruleset told_by_item = (nothing_noted, nothing_told, noted_still, told_since)

-- a concept of the node in question, or of a first node
pub ruleset told_by_node = (told_there, told_first)

-- a concept of another node
pub ruleset told_by_concept = (told_by_own, told_by_class, told_by_other)
