-- The first of a list in order that passes a test, and what fails before it.
use Rattle.std.proofs.Common.{◌≡◌, ℕ, ◌<◌, ◌≤◌, Bool, true, false, ◌||◌, cond, List, [], ◌∷◌, refl, ap, sym, ◌∙◌, arith}
use Rattle.std.proofs.lemmas.Bool.{or_from, or_right, false_from_ne_true}
use Rattle.std.specs.List.{filter, list_any, AllByRecursion}
use Rattle.std.specs.List.Sorted.{IsStrictlySortedBy}
use Rattle.std.specs.declared.cmp.Ordering.{Ordering}
use Rattle.std.specs.declared.cmp.Ordering.TheVariants.{Less}

-- elements have places, and `is k` tells those at the place k; those that are selected do not fall in place
module _ {T : Type 0} (R : T → T → Ordering) (selected : T → Bool) (place : T → ℕ) (is : ℕ → T → Bool) (from n : ℕ)
    (hits : (k : ℕ) (t : T) → from ≤ k → k < n → is k t ≡ true → selected t ≡ true)
    (at_place : (k : ℕ) (t : T) → is k t ≡ true → place t ≡ k)
    (rises : (t u : T) → selected t ≡ true → selected u ≡ true → R t u ≡ Less → place t ≤ place u) where
  -- where none is selected, none is at a place between the bounds
  pub none_selected : (ts : List T) → filter selected ts ≡ [] → (k : ℕ) → from ≤ k → k < n → list_any (is k) ts ≡ false
  none_selected [] none k low high = refl
  none_selected (t ∷ ts) none k low high = by (λ e. none_selected ts e k low high) (selected t) refl none
    where
      by : (filter selected ts ≡ [] → list_any (is k) ts ≡ false) → (b : Bool) → selected t ≡ b
          → cond b (t ∷ filter selected ts) (filter selected ts) ≡ [] → list_any (is k) (t ∷ ts) ≡ false
      by rest true s e = cc
      by rest false s e =
          let here : is k t ≡ false =
          false_from_ne_true (is k t)
          (λ h. let clash : true ≡ false = sym (hits k t low high h) ∙ s in absurd (cc clash)) in
          or_from (is k t) (list_any (is k) ts) here (rest e)

  later : (t : T) (us : List T) → selected t ≡ true → AllByRecursion (λ u. R t u ≡ Less) us → (k : ℕ) → from ≤ k → k < n
      → k < place t → list_any (is k) us ≡ false
  later t [] s less k low high before = refl
  later t (u ∷ us) s less k low high before =
      let here : is k u ≡ false = false_from_ne_true (is k u) (λ h.
      let up : place t ≤ place u = rises t u s (hits k u low high h) less.0 in
      let at : place u ≡ k = at_place k u h in
      absurd (omega arith)) in
      or_from (is k u) (list_any (is k) us) here (later t us s less.1 k low high before)

  -- before the place of the first that is selected there is none
  pub first_selected_is_least : (ts : List T) (t : T) (rest : List T) → IsStrictlySortedBy R ts
      → filter selected ts ≡ t ∷ rest → (k : ℕ) → from ≤ k → k < n → k < place t → list_any (is k) ts ≡ false
  unfolding IsStrictlySortedBy
  first_selected_is_least [] t rest sorted e k low high before = cc
  first_selected_is_least (u ∷ us) t rest sorted e k low high before =
      by (λ f. first_selected_is_least us t rest sorted.1 f k low high before) (selected u) refl e
    where
      by : (filter selected us ≡ t ∷ rest → list_any (is k) us ≡ false) → (b : Bool) → selected u ≡ b
          → cond b (u ∷ filter selected us) (filter selected us) ≡ t ∷ rest → list_any (is k) (u ∷ us) ≡ false
      by more true s f =
          let same : u ≡ t = cc in
          let above : k < place u = rw same before in
          let here : is k u ≡ false =
          false_from_ne_true (is k u) (λ h. let at : place u ≡ k = at_place k u h in absurd (omega arith)) in
          or_from (is k u) (list_any (is k) us) here (later u us s sorted.0 k low high above)
      by more false s f =
          let here : is k u ≡ false =
          false_from_ne_true (is k u)
          (λ h. let clash : true ≡ false = sym (hits k u low high h) ∙ s in absurd (cc clash)) in
          or_from (is k u) (list_any (is k) us) here (more f)

-- the first that is selected is one of the list, and is selected
pub first_is_selected : {T : Type 0} (selected : T → Bool) (ts : List T) (t : T) (rest : List T)
    → filter selected ts ≡ t ∷ rest → selected t ≡ true
first_is_selected selected [] t rest e = cc
first_is_selected selected (u ∷ us) t rest e = by (first_is_selected selected us t rest) (selected u) refl e
  where
    by : (filter selected us ≡ t ∷ rest → selected t ≡ true) → (b : Bool) → selected u ≡ b
        → cond b (u ∷ filter selected us) (filter selected us) ≡ t ∷ rest → selected t ≡ true
    by more true s f = let same : t ≡ u = cc in ap selected same ∙ s
    by more false s f = more f

pub first_is_among : {T : Type 0} (selected is : T → Bool) (ts : List T) (t : T) (rest : List T)
    → filter selected ts ≡ t ∷ rest → is t ≡ true → list_any is ts ≡ true
first_is_among selected is [] t rest e h = cc
first_is_among selected is (u ∷ us) t rest e h = by (λ f. first_is_among selected is us t rest f h) (selected u) e
  where
    by : (filter selected us ≡ t ∷ rest → list_any is us ≡ true) → (b : Bool)
        → cond b (u ∷ filter selected us) (filter selected us) ≡ t ∷ rest → list_any is (u ∷ us) ≡ true
    by more true f =
        let same : t ≡ u = cc in let here : is u ≡ true = ap is (sym same) ∙ h in ap (λ v. v || list_any is us) here
    by more false f = or_right (is u) (list_any is us) (more f)
