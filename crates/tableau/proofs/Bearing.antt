-- Which classes bear on the node in question, and which concepts are own ones of other nodes.
use Rattle.std.proofs.Common.{◌≡◌, ℕ, suc, ◌<◌, ◌≤◌, ◌&&◌, eqb, ltb, not, true, false, List, [], ◌∷◌}
use Rattle.std.proofs.Common.{length, get_or, refl, ap, ◌∙◌, subst, arith, inl, inr, Contains}
use Rattle.std.specs.List.{list_any, All}
use Rattle.std.proofs.lemmas.Bool.{and_parts, and_from, or_cases, or_parts, or_right, not-true, eqb-true, ltb-true}
use Rattle.std.proofs.lemmas.Bool.{lt-ltb, ne_eqb, both_ways, false_from_ne_true, true_from_ne_false}
use Rattle.std.proofs.lemmas.List.Elements.{All-weaker, All-tail, All-contains}
use Rattle.calculus_specs.specs.Listed.{IsLabel}
use Rattle.calculus_specs.specs.Shape.{Shape, shape_of}
use Rattle.calculus_specs.specs.Shape.Shape.{top, bottom, name, not_name, intersection, union, some_of, all_of}
use Rattle.calculus_specs.specs.Shape.Shape.{at_least, at_most}
use Rattle.calculus_specs.specs.State.{has}
use Rattle.calculus_specs.specs.declared.facts.Fact.{Fact}
use Rattle.tableau_specs.specs.declared.Item.{Item}
use Rattle.tableau_specs.specs.Items.{facts_of}
use Rattle.search_laws.specs.Runs.{was_ever, puts_at, SetsApart}
use Rattle.tableau.specs.Seen.{SeenSets, holds, complement_of, is_one, gives_bearing, may_be_own, HasNoOwn, Bears}
use Rattle.tableau.specs.Telling.{has_room}

-- ---- complements

-- the complement of class a
pub complement_shape : (a : ℕ) (s : Shape) → is_one a (complement_of s) ≡ true → s ≡ not_name a
complement_shape a (not_name b) h = ap not_name (eqb-true b a h)
complement_shape a top h = cc
complement_shape a bottom h = cc
complement_shape a (name b) h = cc
complement_shape a (intersection parts) h = cc
complement_shape a (union parts) h = cc
complement_shape a (some_of r c) h = cc
complement_shape a (all_of r c) h = cc
complement_shape a (at_least n r c) h = cc
complement_shape a (at_most n r c) h = cc

-- the complement of some class
pub complement_found : (limit : ℕ) (s : Shape) → has_room limit (complement_of s) ≡ true → (a : ℕ) × (s ≡ not_name a)
complement_found limit (not_name a) h = (a, refl)
complement_found limit top h = absurd (cc)
complement_found limit bottom h = absurd (cc)
complement_found limit (name b) h = absurd (cc)
complement_found limit (intersection parts) h = absurd (cc)
complement_found limit (union parts) h = absurd (cc)
complement_found limit (some_of r c) h = absurd (cc)
complement_found limit (all_of r c) h = absurd (cc)
complement_found limit (at_least n r c) h = absurd (cc)
complement_found limit (at_most n r c) h = absurd (cc)

-- ---- own concepts

-- a node that had none has none once more are noted of the node in question
pub none_later : (s s' : SeenSets) (fs : List (Fact ℕ)) (x c : ℕ) → s'.there.limit ≡ s.there.limit
    → ((d : ℕ) → d < s.there.limit → holds s.there d ≡ true → holds s'.there d ≡ true)
    → HasNoOwn s fs x c → HasNoOwn s' fs x c
none_later s s' fs x c limit grows none own held =
    false_from_ne_true (may_be_own s' own c) (λ may.
    (let other = not (eqb own 0) && not (eqb own c) in
    let t = and_parts (other && ltb own s'.there.limit) (not (holds s'.there own)) may in
    let u = and_parts other (ltb own s'.there.limit) t.0 in
    let below : own < s.there.limit = omega (arith, ltb-true own s'.there.limit u.1, limit) in
    let out : holds s.there own ≡ false =
    false_from_ne_true (holds s.there own) (λ was.
    both_ways (holds s'.there own) (not-true (holds s'.there own) t.1) (grows own below was)) in
    both_ways (may_be_own s own c) (none own held)
    (and_from (other && ltb own s.there.limit) (not (holds s.there own))
    (and_from other (ltb own s.there.limit) u.0 (lt-ltb own s.there.limit below)) (ap not out))))

-- another concept than top and c that may not be noted, though there is room for it, the node in question was given
pub not_own_is_there : (s : SeenSets) (own c : ℕ) → may_be_own s own c ≡ false → ¬ (own ≡ 0) → ¬ (own ≡ c)
    → own < s.there.limit → holds s.there own ≡ true
not_own_is_there s own c none not_top other lt =
    true_from_ne_false (holds s.there own) (λ out.
    both_ways (may_be_own s own c) none
    (and_from ((not (eqb own 0) && not (eqb own c)) && ltb own s.there.limit) (not (holds s.there own))
    (and_from (not (eqb own 0) && not (eqb own c)) (ltb own s.there.limit)
    (and_from (not (eqb own 0)) (not (eqb own c)) (ap not (ne_eqb own 0 not_top)) (ap not (ne_eqb own c other)))
    (lt-ltb own s.there.limit lt))
    (ap not out)))

-- a node has none where its label has none
pub none_of_label : (s : SeenSets) (fs : List (Fact ℕ)) (x c : ℕ) (cs : List ℕ) → IsLabel fs x cs
    → ((k d : ℕ) → k < length cs → may_be_own s (get_or cs k d) c ≡ false) → HasNoOwn s fs x c
none_of_label s fs x c cs label each own held = among cs each (label own ∙ held)
  where
    among : (ds : List ℕ) → ((k d : ℕ) → k < length ds → may_be_own s (get_or ds k d) c ≡ false)
        → list_any (λ d. eqb d own) ds ≡ true → may_be_own s own c ≡ false
    among [] h hit = cc
    among (d ∷ ds) h hit = elim (or_cases (eqb d own) (list_any (λ e. eqb e own) ds) hit) [
      | inl here ↦ subst (λ (e : ℕ). may_be_own s e c ≡ false) (eqb-true d own here) (h 0 d (omega arith))
      | inr later ↦ among ds (λ k e lt. h (suc k) e (omega (arith, lt))) later
    ]

-- ---- runs

pub contains_first : {X : Type 0} (x : X) (xs : List X) → Contains (x ∷ xs) x
contains_first x xs = (0, omega arith, refl)

module _ (first at : ℕ) (table : List Shape) (a : ℕ) where
  -- what bears on the node in question still does once the run has gone on
  module _ (trail : List Item) (earlier : List (List Item)) where
    set_before : (t : List Item) → SetsApart first at table (trail ∷ earlier) a t
        → SetsApart first at table earlier a t
    set_before t sets x c high put sh =
        let own = sets x c high put sh in
        record {
          concept = own.concept;
          holds = own.holds;
          is_never_there =
              (or_parts (list_any (puts_at at own.concept) (facts_of trail)) (was_ever (puts_at at own.concept) earlier)
              own.is_never_there).1;
          is_not_top = own.is_not_top;
          is_another = own.is_another;
        }

    pub bears_later : Bears first at table earlier a → Bears first at table (trail ∷ earlier) a
    bears_later (inl ever) =
        let p = gives_bearing at table a in inl (or_right (list_any p (facts_of trail)) (was_ever p earlier) ever)
    bears_later (inr none) = inr (λ all.
        none
        (All-weaker (SetsApart first at table (trail ∷ earlier) a) (SetsApart first at table earlier a) set_before
        earlier (All-tail (SetsApart first at table (trail ∷ earlier) a) trail earlier all)))

  -- a trail of the run gives the complement to a node whose other concepts the run gives to the node in question
  pub not_set_apart : (run : List (List Item)) (trail : List Item) (x c : ℕ) → Contains run trail → first ≤ x
      → list_any (puts_at x c) (facts_of trail) ≡ true → shape_of table c ≡ not_name a
      → ((own : ℕ) → has (facts_of trail) x own ≡ true → ¬ (own ≡ 0) → ¬ (own ≡ c)
      → was_ever (puts_at at own) run ≡ true)
      → ¬ All (SetsApart first at table run a) run
  not_set_apart run trail x c member high put sh there all =
      let own = All-contains (SetsApart first at table run a) run trail all member x c high put sh in
      both_ways (was_ever (puts_at at own.concept) run) own.is_never_there
      (there own.concept own.holds own.is_not_top own.is_another)
