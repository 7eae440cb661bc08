-- What is noted.
use Rattle.std.proofs.Common.{◌≡◌, ℕ, zero, suc, ◌+◌, ◌<◌, ◌≤◌, ◌&&◌, ◌||◌, eqb, not, Bool, true, false, List, [], ◌∷◌}
use Rattle.std.proofs.Common.{drop}
use Rattle.std.proofs.Common.{length, Some, refl, ap, ◌∙◌, sym, subst, arith, inl, inr, eq-eqb}
use Rattle.std.specs.List.{list_any, slice_get}
use Rattle.std.specs.Prelude.{◌==◌}
use Rattle.std.proofs.lemmas.Bool.{cases_Bool, and_parts, eqb-true, false_from_ne_true}
use Rattle.std.proofs.lemmas.List.{drop_all}
use Rattle.calculus_specs.proofs.Bools.{false_from_not}
use Rattle.calculus_specs.specs.Shape.{Shape, shape_of}
use Rattle.calculus_specs.specs.declared.facts.Fact.{Fact}
use Rattle.calculus_specs.specs.declared.facts.Fact.TheVariants.{Has}
use Rattle.axiom_sets.specs.Sets.{Limited}
use Rattle.tableau_specs.specs.declared.Item.{Item}
use Rattle.tableau_specs.specs.declared.Item.TheVariants.{Fact as Says, Mark}
use Rattle.tableau_specs.specs.Items.{facts_of}
use Rattle.tableau.specs.Seen.{SeenSets, holds, class_of, union_parts, is_one, is_complement, has_complement}
use Rattle.tableau.specs.Seen.{gives_class, gives_complement, gives_more, HasGained, HasNoted}

-- ---- one set

-- for a class behind the last one there is no room
pub no_room : (limit class a : ℕ) (b : Bool) → limit ≤ class → a < limit → b ≡ (eqb class a || b)
no_room limit class a b high lt = elim (cases_Bool (eqb class a)) [
  | inl h ↦ absurd (omega (arith, eqb-true class a h, high, lt))
  | inr h ↦ ap (λ (t : Bool). t || b) (sym h)
]

module _ (old new : Limited) where
  pub gains_same : (p q : ℕ → Bool) → ((a : ℕ) → p a ≡ q a) → HasGained p old new → HasGained q old new
  gains_same p q same h =
      record { limit = h.limit; held = λ a lt. h.held a lt ∙ ap (λ (b : Bool). b || holds old a) (same a) }

  pub gains_none : (p : ℕ → Bool) → ((a : ℕ) → p a ≡ false) → new ≡ old → HasGained p old new
  gains_none p none is = record {
    limit = ap (λ (s : Limited). s.limit) is;
    held = λ a lt. ap (λ (s : Limited). holds s a) is ∙ ap (λ (b : Bool). b || holds old a) (sym (none a));
  }

-- ---- whether the node in question was given more than top

-- where it was not, what is known stands
bare_still : (old more : Bool) → more ≡ false → old ≡ (old && not more)
bare_still true more none = ap not (sym none)
bare_still false more none = refl

-- where that is known later, it was known before
pub bare_before : (old new more : Bool) → new ≡ (old && not more) → new ≡ true → (old ≡ true) × (more ≡ false)
bare_before old new more is still =
    let t = and_parts old (not more) (sym is ∙ still) in (t.0, false_from_not more t.1)

-- ---- one concept

module _ (at : ℕ) (table : List Shape) (node concept : ℕ) (old mid new : SeenSets)
    (complement : HasGained (λ a. is_complement table a concept) old.complements mid.complements)
    (same : mid.at_node ≡ old.at_node) (bare_same : mid.bare ≡ old.bare) where
  or_false : (b : Bool) → (b || false) ≡ b
  or_false true = refl
  or_false false = refl

  -- at the node in question
  pub noted_there : node ≡ at → new.bare ≡ (mid.bare && eqb concept 0)
      → HasGained (λ a. is_one a (class_of (shape_of table concept))) mid.at_node new.at_node
      → HasGained (λ a. has_complement table a (union_parts (shape_of table concept))) mid.complements new.complements
      → HasNoted at table (Has node concept ∷ []) old new
  noted_there there bare class parts =
      let is_there : (node == at) ≡ true = eq-eqb node at there in
      record {
        at_node = record {
          limit = class.limit ∙ ap (λ (s : Limited). s.limit) same;
          held = λ a lt.
              class.held a (omega (arith, lt, ap (λ (s : Limited). s.limit) same))
              ∙ ap (λ (s : Limited). is_one a (class_of (shape_of table concept)) || holds s a) same
              ∙ ap (λ (b : Bool). b || holds old.at_node a)
              (sym (or_false (gives_class at table a (Has node concept))
              ∙ ap (λ (b : Bool). b && is_one a (class_of (shape_of table concept))) is_there));
        };
        complements = record {
          limit = parts.limit ∙ complement.limit;
          held = λ a lt.
              let p = has_complement table a (union_parts (shape_of table concept)) in
              let q = is_complement table a concept in
              parts.held a (omega (arith, lt, complement.limit))
              ∙ ap (λ (b : Bool). p || b) (complement.held a lt)
              ∙ turned p q (holds old.complements a)
              ∙ ap (λ (b : Bool). b || holds old.complements a)
              (sym
              (or_false (gives_complement at table a (Has node concept)) ∙ ap (λ (b : Bool). q || (b && p)) is_there));
        };
        bare =
            bare ∙ ap (λ (b : Bool). b && eqb concept 0) bare_same ∙ no_more old.bare (eqb concept 0)
            ∙ ap (λ (b : Bool). old.bare && not ((b && not (concept == 0)) || false)) (sym is_there);
      }
    where
      no_more : (b top : Bool) → (b && top) ≡ (b && not (not top || false))
      no_more b true = refl
      no_more b false = refl

      turned : (p q b : Bool) → (p || (q || b)) ≡ ((q || p) || b)
      turned true true b = refl
      turned true false b = refl
      turned false true b = refl
      turned false false b = refl

  -- at another node
  pub noted_elsewhere : ¬ (node ≡ at) → new ≡ mid → HasNoted at table (Has node concept ∷ []) old new
  noted_elsewhere other is =
      let not_there : (node == at) ≡ false = false_from_ne_true (node == at) (λ h. other (eqb-true node at h)) in
      subst (λ (s : SeenSets). HasNoted at table (Has node concept ∷ []) old s) (sym is) (record {
        at_node =
            gains_none old.at_node mid.at_node _
            (λ a. or_false (gives_class at table a (Has node concept))
            ∙ ap (λ (b : Bool). b && is_one a (class_of (shape_of table concept))) not_there)
            same;
        complements = gains_same old.complements mid.complements _ _
            (λ a.
            let p = has_complement table a (union_parts (shape_of table concept)) in
            let q = is_complement table a concept in
            sym (or_false (gives_complement at table a (Has node concept)) ∙ ap (λ (b : Bool). q || (b && p)) not_there
            ∙ or_false q))
            complement;
        bare =
            bare_same
            ∙ bare_still old.bare (gives_more at (Has node concept) || false)
            (or_false (gives_more at (Has node concept)) ∙ ap (λ (b : Bool). b && not (concept == 0)) not_there);
      })

-- facts that have to do with no class
pub nothing_noted : (at : ℕ) (table : List Shape) (fs : List (Fact ℕ)) (s : SeenSets)
    → ((a : ℕ) → list_any (gives_class at table a) fs ≡ false)
    → ((a : ℕ) → list_any (gives_complement at table a) fs ≡ false) → list_any (gives_more at) fs ≡ false
    → HasNoted at table fs s s
nothing_noted at table fs s class complement more = record {
  at_node = gains_none s.at_node s.at_node _ class refl;
  complements = gains_none s.complements s.complements _ complement refl;
  bare = bare_still s.bare (list_any (gives_more at) fs) more;
}

-- ---- one item more of a list, of which the rest is still to be noted

pub drop_at : {A : Type 0} → (xs : List A) (n : ℕ) (x : A) → slice_get xs n ≡ Some x → drop n xs ≡ x ∷ drop (suc n) xs
drop_at [] n x h = absurd (cc)
drop_at (y ∷ ys) zero x h = (let e : y ≡ x = cc in ap (λ z. z ∷ ys) e)
drop_at (y ∷ ys) (suc n) x h = drop_at ys n x h

one_more : (p : Fact ℕ → Bool) (items : List Item) (place : ℕ) (item : Item) (all held held' start : Bool)
    → slice_get items place ≡ Some item → held' ≡ (list_any p (facts_of (item ∷ [])) || held)
    → (list_any p (facts_of (drop place items)) || held) ≡ (all || start)
    → (list_any p (facts_of (drop (place + 1) items)) || held') ≡ (all || start)
one_more p items place item all held held' start read noted so_far =
    let next : place + 1 ≡ suc place = omega arith in
    ap (λ (k : ℕ). list_any p (facts_of (drop k items)) || held') next
    ∙ ap (λ (b : Bool). list_any p (facts_of (drop (suc place) items)) || b) noted
    ∙ turned (list_any p (facts_of (drop (suc place) items))) (list_any p (facts_of (item ∷ []))) held
    ∙ (let split : list_any p (facts_of (drop place items))
    ≡ (list_any p (facts_of (item ∷ [])) || list_any p (facts_of (drop (suc place) items))) =
    ap (λ (is : List Item). list_any p (facts_of is)) (drop_at items place item read)
    ∙ first item (drop (suc place) items) in
    ap (λ (b : Bool). b || held) (sym split))
    ∙ so_far
  where
    turned : (a b c : Bool) → (a || (b || c)) ≡ ((b || a) || c)
    turned true true c = refl
    turned true false c = refl
    turned false true c = refl
    turned false false c = refl

    first : (i : Item) (is : List Item)
        → list_any p (facts_of (i ∷ is)) ≡ (list_any p (facts_of (i ∷ [])) || list_any p (facts_of is))
    first (Says f) is = elim (p f) as
        (λ b. (b || list_any p (facts_of is)) ≡ ((b || false) || list_any p (facts_of is)))
        [ true ↦ refl | false ↦ refl ]
    first (Mark c) is = refl

-- the concepts up to a place are put into a set
pub record IsPutting (table : List Shape) (concepts : List ℕ) (place : ℕ) (old now : Limited) : Type 0 where
  pub limit : now.limit ≡ old.limit
  pub held : (a : ℕ) → a < old.limit
      → (has_complement table a (drop place concepts) || holds now a) ≡ (has_complement table a concepts || holds old a)

pub puts_next : (table : List Shape) (concepts : List ℕ) (place concept : ℕ) (old now next : Limited)
    → slice_get concepts place ≡ Some concept → IsPutting table concepts place old now
    → HasGained (λ a. is_complement table a concept) now next → IsPutting table concepts (place + 1) old next
puts_next table concepts place concept old now next read before gained = record {
  limit = gained.limit ∙ before.limit;
  held = λ a lt.
      let k : place + 1 ≡ suc place = omega arith in
      let rest = has_complement table a (drop (suc place) concepts) in
      let this = is_complement table a concept in
      (λ i. has_complement table a (drop (k i) concepts) || gained.held a (omega (arith, lt, before.limit)) i)
      ∙ later rest this (holds now a)
      ∙ ap (λ (ds : List ℕ). has_complement table a ds || holds now a) (sym (drop_at concepts place concept read))
      ∙ before.held a lt;
}
  where
    later : (rest this b : Bool) → (rest || (this || b)) ≡ ((this || rest) || b)
    later true true b = refl
    later true false b = refl
    later false true b = refl
    later false false b = refl

-- how far one set is noted, up to a place
pub record IsNoting (test : ℕ → Fact ℕ → Bool) (items : List Item) (from place : ℕ) (old now : Limited) : Type 0 where
  pub limit : now.limit ≡ old.limit
  pub held : (a : ℕ) → a < old.limit
      → (list_any (test a) (facts_of (drop place items)) || holds now a)
      ≡ (list_any (test a) (facts_of (drop from items)) || holds old a)

pub notes_one : (test : ℕ → Fact ℕ → Bool) (items : List Item) (from place : ℕ) (item : Item) (old now next : Limited)
    → slice_get items place ≡ Some item → IsNoting test items from place old now
    → HasGained (λ a. list_any (test a) (facts_of (item ∷ []))) now next → IsNoting test items from (place + 1) old next
notes_one test items from place item old now next read before gained = record {
  limit = gained.limit ∙ before.limit;
  held = λ a lt.
      one_more (test a) items place item (list_any (test a) (facts_of (drop from items))) (holds now a) (holds next a)
      (holds old a) read (gained.held a (omega (arith, lt, before.limit))) (before.held a lt);
}

-- how far it is noted whether the node in question was given more than top, up to a place
abbrev pub IsBareSoFar : ℕ → List Item → ℕ → ℕ → Bool → Bool → Type 0
IsBareSoFar at items from place old now =
    (list_any (gives_more at) (facts_of (drop place items)) || not now)
    ≡ (list_any (gives_more at) (facts_of (drop from items)) || not old)

pub bare_one : (at : ℕ) (items : List Item) (from place : ℕ) (item : Item) (old now next : Bool)
    → slice_get items place ≡ Some item → IsBareSoFar at items from place old now
    → next ≡ (now && not (list_any (gives_more at) (facts_of (item ∷ []))))
    → IsBareSoFar at items from (place + 1) old next
bare_one at items from place item old now next read before noted =
    let more = gives_more at in
    one_more more items place item (list_any more (facts_of (drop from items))) (not now) (not next) (not old) read
    (ap not noted ∙ turned now (list_any more (facts_of (item ∷ [])))) before
  where
    turned : (b more : Bool) → not (b && not more) ≡ (more || not b)
    turned true true = refl
    turned true false = refl
    turned false true = refl
    turned false false = refl

pub bare_all : (at : ℕ) (items : List Item) (from place : ℕ) (old now : Bool) → length items ≤ place
    → IsBareSoFar at items from place old now
    → now ≡ (old && not (list_any (gives_more at) (facts_of (drop from items))))
bare_all at items from place old now past so_far =
    turned now old (list_any (gives_more at) (facts_of (drop from items)))
    (ap (λ (is : List Item). list_any (gives_more at) (facts_of is) || not now) (sym (drop_all place items past))
    ∙ so_far)
  where
    turned : (b c more : Bool) → not b ≡ (more || not c) → b ≡ (c && not more)
    turned true true true h = cc
    turned true true false h = refl
    turned true false true h = cc
    turned true false false h = cc
    turned false true true h = refl
    turned false true false h = cc
    turned false false true h = refl
    turned false false false h = refl
