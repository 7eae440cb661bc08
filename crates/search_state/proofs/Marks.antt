-- The marks of a trail that grows or is cut.
use Rattle.std.proofs.Common.{◌≡◌, ℕ, zero, suc, ◌<◌, ◌≤◌, List, [], ◌∷◌, ◌++◌, length, take, drop, Some, refl, ap, ◌∙◌}
use Rattle.std.proofs.Common.{sym, subst, arith}
use Rattle.std.specs.Prelude.{slice_get}
use Rattle.tableau_specs.specs.Steps.{SearchContext}
use Rattle.search_trace.specs.Places.{Place}
use Rattle.step_agenda.specs.Entry.{Entry}
use Rattle.search_state.specs.Marked.{marked_in}
use Rattle.search_state.specs.Branchings.{IsMarkOf, AreMarks}

-- ---- lists

pub get-within : {A : Type 0} → (xs : List A) (k : ℕ) (v : A) → slice_get xs k ≡ Some v → k < length xs
get-within [] k v h = cc
get-within (x ∷ xs) zero v h = omega arith
get-within (x ∷ xs) (suc k) v h = omega (arith, get-within xs k v h)

pub get-front : {A : Type 0} → (xs ys : List A) (k : ℕ) (v : A) → slice_get xs k ≡ Some v
    → slice_get (xs ++ ys) k ≡ Some v
get-front [] ys k v h = cc
get-front (x ∷ xs) ys zero v h = h
get-front (x ∷ xs) ys (suc k) v h = get-front xs ys k v h

pub take-front : {A : Type 0} → (xs ys : List A) (k : ℕ) → k ≤ length xs → take k (xs ++ ys) ≡ take k xs
take-front xs ys zero le = refl
take-front [] ys (suc k) le = absurd (omega (arith, le))
take-front (x ∷ xs) ys (suc k) le = ap (λ (zs : List _). x ∷ zs) (take-front xs ys k (omega (arith, le)))

pub get-take : {A : Type 0} → (n : ℕ) (xs : List A) (k : ℕ) (v : A) → slice_get (take n xs) k ≡ Some v → k < n
get-take zero xs k v h = cc
get-take (suc n) [] k v h = cc
get-take (suc n) (x ∷ xs) zero v h = omega arith
get-take (suc n) (x ∷ xs) (suc k) v h = omega (arith, get-take n xs k v h)

-- the element behind a list
pub get-behind : {A : Type 0} → (xs : List A) (x : A) (ys : List A) → slice_get (xs ++ x ∷ ys) (length xs) ≡ Some x
get-behind [] x ys = refl
get-behind (y ∷ xs) x ys = get-behind xs x ys

pub get-back : {A : Type 0} → (n : ℕ) (xs : List A) (k : ℕ) (v : A) → slice_get (take n xs) k ≡ Some v
    → slice_get xs k ≡ Some v
get-back zero xs k v h = cc
get-back (suc n) [] k v h = cc
get-back (suc n) (x ∷ xs) zero v h = h
get-back (suc n) (x ∷ xs) (suc k) v h = get-back n xs k v h

pub take-twice : {A : Type 0} → (n : ℕ) (xs : List A) (k : ℕ) → k < n → take k (take n xs) ≡ take k xs
take-twice n xs zero lt = refl
take-twice zero xs (suc k) lt = absurd (omega (arith, lt))
take-twice (suc n) [] (suc k) lt = refl
take-twice (suc n) (x ∷ xs) (suc k) lt = ap (λ (zs : List _). x ∷ zs) (take-twice n xs k (omega (arith, lt)))

-- ---- a longer trail

module _ (w : SearchContext) where
  mark_stays : (es more : List Entry) (at : ℕ) (p : Place) → IsMarkOf w es at p → IsMarkOf w (es ++ more) at p
  mark_stays es more at p m = record {
    choice = m.choice;
    stands = get-front es more at _ m.stands;
    line = m.line;
    before = ap marked_in (take-front es more at (omega (arith, get-within es at _ m.stands))) ∙ m.before;
    grounded = m.grounded;
    known = m.known;
    facts = m.facts;
    children = m.children;
    alternatives = m.alternatives;
    small = m.small;
    rest = m.rest;
  }

  pub marks_stay : (es more : List Entry) (ats : List ℕ) (ps : List Place) → AreMarks w es ats ps
      → AreMarks w (es ++ more) ats ps
  marks_stay es more [] [] h = tt
  marks_stay es more [] (p ∷ ps) h = absurd h
  marks_stay es more (at ∷ ats) [] h = absurd h
  marks_stay es more (at ∷ ats) (p ∷ ps) h = (
    mark_stays es more at p h.0,
    subst (λ (us : List Entry). AreMarks w us ats ps)
        (sym (take-front es more at (omega (arith, get-within es at _ h.0.stands)))) h.1,
  )

  -- ---- a trail that is cut

  -- as many marks as branchings
  pub same_count : (es : List Entry) (ats : List ℕ) (ps : List Place) → AreMarks w es ats ps → length ats ≡ length ps
  same_count es [] [] h = refl
  same_count es [] (p ∷ ps) h = absurd h
  same_count es (at ∷ ats) [] h = absurd h
  same_count es (at ∷ ats) (p ∷ ps) h = ap suc (same_count (take at es) ats ps h.1)

  -- those of the branchings that are left, where the mark of the latest stands
  pub record AreLeft (es : List Entry) (ats : List ℕ) (p : Place) (ps : List Place) : Type 0 where
    pub at : ℕ
    pub older : List ℕ
    pub ats_are : ats ≡ at ∷ older
    pub mark : IsMarkOf w es at p
    pub others : AreMarks w (take at es) older ps

  mark_before : (es : List Entry) (n at : ℕ) (p : Place) → IsMarkOf w (take n es) at p → IsMarkOf w es at p
  mark_before es n at p m =
      let lt : at < n = get-take n es at _ m.stands in
      record {
        choice = m.choice;
        stands = get-back n es at _ m.stands;
        line = m.line;
        before = ap marked_in (sym (take-twice n es at lt)) ∙ m.before;
        grounded = m.grounded;
        known = m.known;
        facts = m.facts;
        children = m.children;
        alternatives = m.alternatives;
        small = m.small;
        rest = m.rest;
      }

  pub marks_left : (es : List Entry) (ats : List ℕ) (passed : List Place) (p : Place) (ps : List Place)
      → AreMarks w es ats (passed ++ p ∷ ps) → AreLeft es (drop (length passed) ats) p ps
  marks_left es [] [] p ps h = absurd h
  marks_left es (at ∷ ats) [] p ps h = record { at = at; older = ats; ats_are = refl; mark = h.0; others = h.1 }
  marks_left es [] (q ∷ passed) p ps h = absurd h
  marks_left es (at ∷ ats) (q ∷ passed) p ps h =
      let l = marks_left (take at es) ats passed p ps h.1 in
      let lt : l.at < at = get-take at es l.at _ l.mark.stands in
      record {
        at = l.at;
        older = l.older;
        ats_are = l.ats_are;
        mark = mark_before es at l.at p l.mark;
        others = subst (λ (us : List Entry). AreMarks w us l.older ps) (take-twice at es l.at lt) l.others;
      }
