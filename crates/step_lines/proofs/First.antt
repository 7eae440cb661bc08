-- The first of the successors that an 'at most' counts.
use Rattle.std.proofs.Common.{◌≡◌, ℕ, suc, ◌+◌, ◌-◌, ◌<◌, ◌≤◌, ◌&&◌, ◌||◌, eqb, leb, Bool, true, false, List, []}
use Rattle.std.proofs.Common.{◌∷◌, ◌++◌, take, length, get_or, Option, Some, None, MatchOption, refl, ap, ◌∙◌, sym}
use Rattle.std.proofs.Common.{subst, arith}
use Rattle.std.specs.List.{list_any}
use Rattle.std.proofs.lemmas.List.{take_all, take_more, append-nil, append_assoc}
use Rattle.calculus_specs.specs.declared.facts.Fact.{Fact}
use Rattle.tableau_specs.specs.Clash.{filled_successors}
use Rattle.tableau_specs.proofs.After.{any-snoc}
use Rattle.step_finders.specs.Filled.{AreFilled, filled_from, IsLeast}
use Rattle.step_finders.proofs.Later.{least_same, from_first, member_from, next_is}

-- ---- the least of some numbers

one_more : (a l e : Bool) → ((a && l) || (l && e)) ≡ ((a || e) && l)
one_more true true e = refl
one_more true false e = refl
one_more false true true = refl
one_more false true false = refl
one_more false false true = refl
one_more false false false = refl

pub least_more : (numbers : List ℕ) (i d from : ℕ) → i < length numbers → (o : Option ℕ)
    → IsLeast (λ z. (list_any (eqb z) (take i numbers) && leb from z) || (leb from z && eqb z (get_or numbers i d))) o
    → IsLeast (λ z. list_any (eqb z) (take (i + 1) numbers) && leb from z) o
least_more numbers i d from lt o l =
    least_same
    (λ z. (list_any (eqb z) (take i numbers) && leb from z) || (leb from z && eqb z (get_or numbers i d)))
    (λ z. list_any (eqb z) (take (i + 1) numbers) && leb from z)
    (λ z. one_more (list_any (eqb z) (take i numbers)) (leb from z) (eqb z (get_or numbers i d))
    ∙ ap (λ (t : Bool). t && leb from z)
    (sym (ap (list_any (eqb z)) (take_more numbers i d lt) ∙ any-snoc (eqb z) (take i numbers) (get_or numbers i d))))
    o l

pub least_all : (numbers : List ℕ) (count from : ℕ) → length numbers ≤ count → (o : Option ℕ)
    → IsLeast (λ z. list_any (eqb z) (take count numbers) && leb from z) o
    → IsLeast (λ z. list_any (eqb z) numbers && leb from z) o
least_all numbers count from past o l =
    subst (λ (xs : List ℕ). IsLeast (λ z. list_any (eqb z) xs && leb from z) o) (take_all count numbers past) l

-- ---- one after another

-- whether one was found
none_found : (A : Type 0) (P : ℕ → Type 0) (o : Option ℕ) → ((y : ℕ) → ¬ (o ≡ Some y)) → MatchOption o A P → A
none_found A P None not_some h = h
none_found A P (Some y) not_some h = absurd (not_some y refl)

some_found : (A : Type 0) (P : ℕ → Type 0) (o : Option ℕ) (y : ℕ) → o ≡ Some y → MatchOption o A P → P y
some_found A P o y is h = subst (λ (v : Option ℕ). MatchOption v A P) is h

module _ (first : ℕ) (below : ℕ → ℕ → Bool) (fs : List (Fact ℕ)) (x s e : ℕ) where
  abbrev later : ℕ → List ℕ
  later from = filled_from first below fs x s e from

  pub none_put : (put : List ℕ) → put ≡ [] → (most : ℕ)
      → put ++ take (most - 0) (later 0) ≡ take most (filled_successors first below fs x s e)
  none_put put none most =
      let all : most - 0 ≡ most = omega arith in
      ap (λ (xs : List ℕ). xs ++ take (most - 0) (later 0)) none ∙ ap (λ (n : ℕ). take n (later 0)) all
      ∙ ap (take most) (from_first first below fs x s e)

  -- the least of the successors from a number on is the first of these
  next_found : (ys : List ℕ) → AreFilled below fs x s e ys → (from : ℕ) (o : Option ℕ)
      → IsLeast (λ z. list_any (eqb z) ys && leb from z) o
      → MatchOption o (later from ≡ []) (λ y. later from ≡ y ∷ later (y + 1))
  next_found ys is from o l =
      next_is first below fs x s e from o
      (least_same (λ z. list_any (eqb z) ys && leb from z) (λ z. list_any (eqb z) (later from))
      (λ z. ap (λ (t : Bool). t && leb from z) (is.members z) ∙ sym (member_from first below fs x s e from z)) o l)

  one_put : (put : List ℕ) (lacking from y : ℕ) → later from ≡ y ∷ later (y + 1)
      → put ++ take (suc lacking) (later from) ≡ (put ++ y ∷ []) ++ take lacking (later (y + 1))
  one_put put lacking from y is =
      ap (λ (zs : List ℕ). put ++ take (suc lacking) zs) is
      ∙ sym (append_assoc put (y ∷ []) (take lacking (later (y + 1))))

  module _ (ys : List ℕ) (is : AreFilled below fs x s e ys) (put whole : List ℕ) (most place from : ℕ)
      (so_far : put ++ take (most - place) (later from) ≡ whole) (o : Option ℕ)
      (least : IsLeast (λ z. list_any (eqb z) ys && leb from z) o) where
    -- there is one more, and it is put
    pub put_more : (y : ℕ) → o ≡ Some y → place < most → (longer : List ℕ) → longer ≡ put ++ y ∷ []
        → longer ++ take (most - (place + 1)) (later (y + 1)) ≡ whole
    put_more y is_some lt longer at =
        let n : suc (most - (place + 1)) ≡ most - place = omega (arith, lt) in
        ap (λ (xs : List ℕ). xs ++ take (most - (place + 1)) (later (y + 1))) at
        ∙ sym (one_put put (most - (place + 1)) from y
        (some_found (later from ≡ []) (λ z. later from ≡ z ∷ later (z + 1)) o y is_some (next_found ys is from o least)))
        ∙ ap (λ (k : ℕ). put ++ take k (later from)) n ∙ so_far

    -- there are no more
    pub none_left : ((y : ℕ) → ¬ (o ≡ Some y)) → put ≡ whole
    none_left not_some =
        let none : later from ≡ [] =
        none_found (later from ≡ []) (λ z. later from ≡ z ∷ later (z + 1)) o not_some (next_found ys is from o least) in
        sym (ap (λ (zs : List ℕ). put ++ take (most - place) zs) none
        ∙ ap (λ (zs : List ℕ). put ++ zs) (take_all (most - place) [] (omega arith)) ∙ append-nil put)
        ∙ so_far

  -- no more are wanted
  pub all_put : (put whole : List ℕ) (most place from : ℕ) → most ≤ place
      → put ++ take (most - place) (later from) ≡ whole → put ≡ whole
  all_put put whole most place from past so_far =
      let none : most - place ≡ 0 = omega (arith, past) in
      sym (ap (λ (n : ℕ). put ++ take n (later from)) none ∙ append-nil put) ∙ so_far
