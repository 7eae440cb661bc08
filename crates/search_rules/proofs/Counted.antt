-- Each 'at most' by its filler, one number at a time.
use Rattle.std.proofs.Common.{◌≡◌, ℕ, ◌+◌, ◌<◌, ◌||◌, Bool, true, false, eqb, List, [], ◌∷◌, ◌++◌, length, set, None}
use Rattle.std.proofs.Common.{Some, refl, ap, sym, subst, ◌∙◌, inl, inr, arith, get_or-set_other, get_or-set_same}
use Rattle.std.specs.List.{list_any}
use Rattle.std.proofs.lemmas.Bool.{eq-eqb, cases_lt, cases_eq}
use Rattle.std.proofs.lemmas.List.Elements.{All-push}
use Rattle.std.proofs.lemmas.List.Folds.{list_any-append}
use Rattle.calculus_specs.specs.Shape.{Shape, shape_of, IsTable}
use Rattle.calculus_specs.specs.Shape.Shape.{at_most}
use Rattle.absorption.proofs.Carried.{most_filler}
use Rattle.absorption.proofs.ListedTrails.{listed}
use Rattle.step_finders.specs.Clashing.{IsMost, AreMosts}
use Rattle.search_rules.specs.Lists.{list_at}
use Rattle.search_rules.specs.Mosts.{filler_of_most, AreMostsTo}

-- what a shape with a filler is
record Most (table : List Shape) (k e : ℕ) : Type 0 where
  count : ℕ
  role : ℕ
  shape : shape_of table k ≡ at_most count role e

most_is : (table : List Shape) (k e : ℕ) → filler_of_most (shape_of table k) ≡ Some e → Most table k e
most_is table k e h = by (shape_of table k) refl h
  where
    by : (s : Shape) → shape_of table k ≡ s → filler_of_most s ≡ Some e → Most table k e
    by (at_most n r f) is g =
        let same : f ≡ e = cc in
        record { count = n; role = r; shape = is ∙ ap (at_most n r) same }
    by _ is g = cc

last_any : (c : ℕ) (cs : List ℕ) (k : ℕ) → k ≡ c → list_any (λ x. eqb x c) (cs ++ k ∷ []) ≡ true
last_any c cs k is =
    list_any-append (λ x. eqb x c) cs (k ∷ []) ∙ by (list_any (λ x. eqb x c) cs) (eqb k c) (eq-eqb k c is)
  where
    by : (a b : Bool) → b ≡ true → (a || (b || false)) ≡ true
    by true b h = refl
    by false b h = ap (λ v. v || false) h

module _ (table : List Shape) (good : IsTable table) (k : ℕ) where
  pub filler_listed : (e : ℕ) → k < length table → filler_of_most (shape_of table k) ≡ Some e → e < length table
  filler_listed e lt h = let m = most_is table k e h in most_filler table good k m.count m.role e lt m.shape

  -- a number that is no 'at most' of a filler
  passed : (c : ℕ) (cs : List ℕ) → ((n s : ℕ) → ¬ (shape_of table k ≡ at_most n s c)) → AreMostsTo table k c cs
      → AreMostsTo table (k + 1) c cs
  passed c cs other h = record {
    each = h.each;
    every = λ d n s lt is. elim (cases_lt d k) [
      | inl earlier ↦ h.every d n s earlier is
      | inr later ↦ let same : d ≡ k = omega arith in absurd (other n s (sym (ap (shape_of table) same) ∙ is))
    ];
  }

  pub none_more : None ≡ filler_of_most (shape_of table k) → (c : ℕ) (cs : List ℕ) → AreMostsTo table k c cs
      → AreMostsTo table (k + 1) c cs
  none_more h c cs are = passed c cs (λ n s is. (let e = h ∙ ap filler_of_most is in cc)) are

  pub one_more : (e : ℕ) → filler_of_most (shape_of table k) ≡ Some e → (lists new : List (List ℕ)) → e < length lists
      → new ≡ set lists e (list_at lists e ++ k ∷ [])
      → ((c : ℕ) → AreMostsTo table k c (list_at lists c)) → (c : ℕ) → AreMostsTo table (k + 1) c (list_at new c)
  one_more e h lists new lt is are c =
      subst (λ (ls : List (List ℕ)). AreMostsTo table (k + 1) c (list_at ls c)) (sym is) (elim (cases_eq c e) [
        | inl same ↦
            subst (λ (x : ℕ). AreMostsTo table (k + 1) x (list_at (set lists e (list_at lists e ++ k ∷ [])) x))
            (sym same)
            (subst (AreMostsTo table (k + 1) e) (sym (get_or-set_same lists e (list_at lists e ++ k ∷ []) [] lt)) here)
        | inr other ↦
            subst (AreMostsTo table (k + 1) c) (sym (get_or-set_other lists e c (list_at lists e ++ k ∷ []) [] other))
            (passed c (list_at lists c) (λ n s shape. other (filler_same n s shape)) (are c))
      ])
    where
      m : Most table k e
      m = most_is table k e h

      filler_same : (n s : ℕ) → shape_of table k ≡ at_most n s c → c ≡ e
      filler_same n s shape = let p = ap filler_of_most shape in cc

      here : AreMostsTo table (k + 1) e (list_at lists e ++ k ∷ [])
      here = record {
        each = All-push (IsMost table e) (list_at lists e) k (are e).each
            (record { count = m.count; role = m.role; shape = m.shape });
        every = λ d n s less shape. elim (cases_lt d k) [
          | inl earlier ↦
              list_any-append (λ x. eqb x d) (list_at lists e) (k ∷ [])
              ∙ ap (λ b. b || list_any (λ x. eqb x d) (k ∷ [])) ((are e).every d n s earlier shape)
          | inr later ↦ last_any d (list_at lists e) k (omega arith)
        ];
      }

-- all of them
pub all_mosts : (table : List Shape) (c : ℕ) (cs : List ℕ) (n : ℕ) → n ≡ length table → AreMostsTo table n c cs
    → AreMosts table c cs
all_mosts table c cs n is h = record {
  each = h.each;
  every =
      λ d m s shape. h.every d m s
      (let lt : d < length table = listed table d (λ same. (let e = sym same ∙ shape in cc)) in omega arith) shape;
}

-- none at the start
pub none_yet : (table : List Shape) (c : ℕ) (cs : List ℕ) → cs ≡ [] → AreMostsTo table 0 c cs
none_yet table c cs is = subst (AreMostsTo table 0 c) (sym is)
    (record { each = λ k d lt. absurd (omega arith); every = λ d n s lt. absurd (omega arith) })
