-- The successors that an 'at most' counts.
use Rattle.std.proofs.Common.{◌≡◌, ℕ, ◌+◌, ◌<◌, ◌≤◌, ◌&&◌, ◌||◌, eqb, Bool, true, false, List, [], ◌∷◌, ◌++◌, length}
use Rattle.std.proofs.Common.{get_or, take, refl, ap, ◌∙◌, sym, subst, eq-eqb}
use Rattle.std.specs.List.{list_any, IsDistinct}
use Rattle.std.proofs.lemmas.Bool.{eqb-true}
use Rattle.std.proofs.lemmas.Cmp.{nat_eq_equiv}
use Rattle.std.proofs.lemmas.List.{take_more, take_all, get_or_default}
use Rattle.std.proofs.lemmas.Map.Keys.{IsDistinct-push, apart_from_distinct}
use Rattle.shq_nnf.proofs.Bools.{or_absorbs}
use Rattle.calculus_specs.specs.declared.facts.Fact.{Fact}
use Rattle.calculus_specs.specs.State.{has}
use Rattle.calculus_specs.proofs.State.{eqb-comm}
use Rattle.tableau_specs.proofs.After.{any-snoc}
use Rattle.calculus_specs.specs.Joins.{rep}
use Rattle.step_finders.proofs.Edges.{has_rep}
use Rattle.calculus_specs.specs.Listed.{AreEdges}
use Rattle.step_finders.specs.Filled.{AreFilled, IsLater, AreUnapart}

-- ---- a number more

pub push_distinct : (xs : List ℕ) (y : ℕ) → IsDistinct eqb xs → list_any (λ z. eqb z y) xs ≡ false
    → IsDistinct eqb (xs ++ y ∷ [])
push_distinct xs y h out =
    IsDistinct-push nat_eq_equiv xs y h (ap (λ (p : ℕ → Bool). list_any p xs) (λ i z. eqb-comm y z i) ∙ out)

-- where the number is there already
pub member_there : (xs : List ℕ) (n y : ℕ) → list_any (λ z. eqb z n) xs ≡ true
    → (list_any (λ z. eqb y z) xs || eqb y n) ≡ list_any (λ z. eqb y z) xs
member_there xs n y h =
    or_absorbs (list_any (λ z. eqb y z) xs) (eqb y n)
    (λ e. ap (λ (k : ℕ). list_any (λ z. eqb k z) xs) (eqb-true y n e)
    ∙ ap (λ (p : ℕ → Bool). list_any p xs) (λ i z. eqb-comm n z i) ∙ h)

-- ---- the edges so far

abbrev pub fits_at : (ℕ → Bool) → (ℕ → Bool) → (ℕ → ℕ) → ℕ → ℕ × ℕ → Bool
fits_at b h m y p = (b p.0 && h (m p.1)) && eqb y (m p.1)

pub any_more : (p : ℕ × ℕ → Bool) (xs : List (ℕ × ℕ)) (i : ℕ) (d : ℕ × ℕ) → i < length xs
    → list_any p (take (i + 1) xs) ≡ (list_any p (take i xs) || p (get_or xs i d))
any_more p xs i d lt = ap (list_any p) (take_more xs i d lt) ∙ any-snoc p (take i xs) (get_or xs i d)

one_fits : (b h k e a : Bool) → (e ≡ true → h ≡ k) → (((b && h) && e) || (a && k)) ≡ (((b && e) || a) && k)
one_fits false h k e a same = refl
one_fits true h k false a same =
    elim h as (λ (t : Bool). ((t && false) || (a && k)) ≡ (a && k)) [ true ↦ refl | false ↦ refl ]
one_fits true h k true true same = elim k as (λ (t : Bool). (h ≡ t) → ((h && true) || t) ≡ t)
    [ true ↦ λ q. rw q refl | false ↦ λ q. rw q refl ] (same refl)
one_fits true h k true false same = elim k as (λ (t : Bool). (h ≡ t) → ((h && true) || false) ≡ t)
    [ true ↦ λ q. rw q refl | false ↦ λ q. rw q refl ] (same refl)

pub all_fit : (b h : ℕ → Bool) (m : ℕ → ℕ) (y : ℕ) (edges : List (ℕ × ℕ))
    → list_any (fits_at b h m y) edges ≡ (list_any (λ p. b p.0 && eqb (m p.1) y) edges && h y)
all_fit b h m y [] = refl
all_fit b h m y (p ∷ ps) =
    ap (λ (t : Bool). ((b p.0 && h (m p.1)) && eqb y (m p.1)) || t) (all_fit b h m y ps)
    ∙ one_fits (b p.0) (h (m p.1)) (h y) (eqb y (m p.1)) (list_any (λ q. b q.0 && eqb (m q.1) y) ps)
    (λ e. ap h (sym (eqb-true y (m p.1) e)))
    ∙ ap (λ (t : Bool). ((b p.0 && t) || list_any (λ q. b q.0 && eqb (m q.1) y) ps) && h y) (eqb-comm y (m p.1))

none_distinct : IsDistinct eqb []
unfolding IsDistinct
none_distinct = tt

module _ (below : ℕ → ℕ → Bool) (fs : List (Fact ℕ)) (x s e : ℕ) (edges : List (ℕ × ℕ)) where
  -- what has been put of the first edges
  pub record IsPut (count : ℕ) (ys : List ℕ) : Type 0 where
    pub distinct : IsDistinct eqb ys
    pub members : (y : ℕ)
        → list_any (λ z. eqb y z) ys
        ≡ list_any (fits_at (λ r. below r s) (λ v. has fs v e) (rep fs) y) (take count edges)

  pub put_more : (i : ℕ) (d : ℕ × ℕ) (ys zs : List ℕ) (fits : Bool) (v : ℕ) → IsPut i ys → i < length edges
      → fits ≡ (below (get_or edges i d).0 s && has fs (get_or edges i d).1 e)
      → v ≡ rep fs (get_or edges i d).1 → IsDistinct eqb zs
      → ((y : ℕ) → list_any (λ z. eqb y z) zs ≡ (list_any (λ z. eqb y z) ys || (fits && eqb y v))) → IsPut (i + 1) zs
  put_more i d ys zs fits v before lt test at distinct members = record {
    distinct = distinct;
    members = λ y.
        members y
        ∙ (λ j. before.members y j || (test j && eqb y (at j)))
        ∙ ap (λ (b : Bool). list_any (fits_at (λ r. below r s) (λ u. has fs u e) (rep fs) y) (take i edges)
        || ((below (get_or edges i d).0 s && b) && eqb y (rep fs (get_or edges i d).1)))
        (sym (has_rep fs (get_or edges i d).1 e))
        ∙ sym (any_more (fits_at (λ r. below r s) (λ v. has fs v e) (rep fs) y) edges i d lt);
  }

  pub put_none : (ys : List ℕ) → ys ≡ [] → IsPut 0 ys
  put_none ys none = subst (IsPut 0) (sym none) (record { distinct = none_distinct; members = λ y. refl })

  pub put_all : (ys : List ℕ) (count : ℕ) → AreEdges fs x edges → length edges ≤ count → IsPut count ys
      → AreFilled below fs x s e ys
  put_all ys count are past all = record {
    distinct = all.distinct;
    members = λ y.
        all.members y
        ∙ ap (list_any (fits_at (λ r. below r s) (λ v. has fs v e) (rep fs) y)) (take_all count edges past)
        ∙ all_fit (λ r. below r s) (λ v. has fs v e) (rep fs) y edges
        ∙ ap (λ (t : Bool). t && has fs y e) (are (λ r. below r s) y);
  }

-- ---- two that are not apart

absurd_true : (a b : ℕ) → a ≡ b → eqb a b ≡ false → ⊥
absurd_true a b e h = (let t = eq-eqb a b e in cc)

pub later_unapart : (fs : List (Fact ℕ)) (ys : List ℕ) (place z : ℕ) → IsDistinct eqb ys → place < length ys
    → IsLater fs ys place z → AreUnapart fs ys (get_or ys place 0) z
later_unapart fs ys place z distinct lt h = record {
  has_one = (place, lt, get_or_default ys place (get_or ys place 0) 0 lt);
  has_other = (h.later, h.within, h.stands);
  differ = λ e.
      let ne = apart_from_distinct eqb ys place h.later z distinct h.behind h.within in
      let same : get_or ys place z ≡ get_or ys h.later z = get_or_default ys place z 0 lt ∙ e ∙ sym h.stands in
      absurd_true (get_or ys place z) (get_or ys h.later z) same ne;
  unapart = h.unapart;
}
