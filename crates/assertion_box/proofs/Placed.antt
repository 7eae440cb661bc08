-- The places of the facts that name an individual, one place at a time.
use Rattle.std.proofs.Common.{◌≡◌, ℕ, zero, suc, ◌+◌, ◌<◌, ◌||◌, ◌⊎◌, Bool, true, false, cond, eqb, List, [], ◌∷◌, ◌++◌}
use Rattle.std.proofs.Common.{length, set, refl, ap, sym, ◌∙◌, subst, arith, inl, inr, append-nil, add-one}
use Rattle.std.proofs.Common.{get_or-set_other, get_or-set_same}
use Rattle.std.specs.Prelude.{if◌then◌else◌}
use Rattle.std.specs.List.{Contains, filter, range_with_len}
use Rattle.std.specs.List.Sorted.{IsStrictlyIncreasing}
use Rattle.std.proofs.lemmas.Bool.{cases_eq, eq-eqb, ne_eqb}
use Rattle.std.proofs.lemmas.List.Elements.{All-from_get_or, All-filter, filter_passes, filter-append}
use Rattle.std.proofs.lemmas.List.FromFn.{length-range_with_len, get_or-range_with_len}
use Rattle.std.proofs.lemmas.List.Kept.{IsStrictlyIncreasing-filter}
use Rattle.assertion_box.specs.Stated.{Stated, stated_at, ends_of, names}
use Rattle.assertion_box.specs.Places.{is_named_at, places_to, places_of, ArePlacesOf, list_at}

range_next : (a n : ℕ) → range_with_len a (suc n) ≡ range_with_len a n ++ (a + n) ∷ []
range_next a zero = ap (λ (k : ℕ). k ∷ []) (omega arith)
range_next a (suc n) =
    ap (λ (ks : List ℕ). a ∷ ks)
    (range_next (a + 1) n ∙ ap (λ (k : ℕ). range_with_len (a + 1) n ++ k ∷ []) (omega arith))

range_more : (a n : ℕ) → range_with_len a (n + 1) ≡ range_with_len a n ++ (a + n) ∷ []
range_more a n = rw add-one (range_next a n)

-- the place comes last where the fact there names the individual
pub one_place_more : (a : ℕ) (facts : List Stated) (n : ℕ)
    → places_to a facts (n + 1)
    ≡ (if names a (stated_at facts n).fact then places_to a facts n ++ n ∷ [] else places_to a facts n)
one_place_more a facts n =
    ap (filter (is_named_at a facts)) (range_more 0 n ∙ ap (λ (k : ℕ). range_with_len 0 n ++ k ∷ []) (omega arith))
    ∙ filter-append (is_named_at a facts) (range_with_len 0 n) (n ∷ [])
    ∙ by (is_named_at a facts n)
  where
    by : (b : Bool)
        → places_to a facts n ++ cond b (n ∷ []) [] ≡ (if b then places_to a facts n ++ n ∷ [] else places_to a facts n)
    by true = refl
    by false = append-nil (places_to a facts n)

ranges_ascend : (n : ℕ) → IsStrictlyIncreasing (range_with_len 0 n)
ranges_ascend n k lt =
    let long = length-range_with_len 0 n in
    let here = get_or-range_with_len 0 n k 0 (omega (arith, lt, long)) in
    let next = get_or-range_with_len 0 n (k + 1) 0 (omega (arith, lt, long)) in
    omega (arith, here, next)

-- ---- what a filter has

contains_here : (x : ℕ) (xs : List ℕ) → Contains (x ∷ xs) x
contains_here x xs = (0, omega arith, refl)

contains_there : (x y : ℕ) (xs : List ℕ) → Contains xs y → Contains (x ∷ xs) y
contains_there x y xs h = (suc h.0, (let lt = h.1 in omega arith), h.2)

contains_cases : (x y : ℕ) (xs : List ℕ) → Contains (x ∷ xs) y → (x ≡ y) ⊎ Contains xs y
contains_cases x y xs (zero, lt, e) = inl e
contains_cases x y xs (suc k, lt, e) = inr (k, (omega arith), e)

passes_here : (p : ℕ → Bool) (x : ℕ) (xs : List ℕ) → (b : Bool) → p x ≡ b
    → filter p (x ∷ xs) ≡ cond b (x ∷ filter p xs) (filter p xs)
passes_here p x xs b e = ap (λ (c : Bool). cond c (x ∷ filter p xs) (filter p xs)) e

filter_from : (p : ℕ → Bool) (xs : List ℕ) (y : ℕ) → Contains xs y → p y ≡ true → Contains (filter p xs) y
filter_from p [] y h t = absurd (omega (arith, h.1))
filter_from p (x ∷ xs) y h t =
    elim (contains_cases x y xs h) [
      | inl e ↦ (let hit : p x ≡ true = subst (λ (z : ℕ). p z ≡ true) (sym e) t in
          subst (λ (zs : List ℕ). Contains zs y) (sym (passes_here p x xs true hit))
          (subst (λ (z : ℕ). Contains (z ∷ filter p xs) y) (sym e) (contains_here y (filter p xs))))
      | inr later ↦ by (p x) refl (filter_from p xs y later t)
    ]
  where
    by : (b : Bool) → p x ≡ b → Contains (filter p xs) y → Contains (filter p (x ∷ xs)) y
    by true hit rest =
        subst (λ (zs : List ℕ). Contains zs y) (sym (passes_here p x xs true hit))
        (contains_there x y (filter p xs) rest)
    by false miss rest = subst (λ (zs : List ℕ). Contains zs y) (sym (passes_here p x xs false miss)) rest

range_has : (n t : ℕ) → t < n → Contains (range_with_len 0 n) t
range_has n t lt = (t, omega (arith, lt, length-range_with_len 0 n), omega (arith, get_or-range_with_len 0 n t t lt))

pub are_places : (a : ℕ) (facts : List Stated) → ArePlacesOf a facts (places_of a facts)
are_places a facts = record {
  ascending =
      IsStrictlyIncreasing-filter (is_named_at a facts) (range_with_len 0 (length facts))
      (ranges_ascend (length facts));
  each = λ k d lt. (
    All-filter (is_named_at a facts) (λ p. p < length facts) (range_with_len 0 (length facts))
        (All-from_get_or (λ p. p < length facts) (range_with_len 0 (length facts)) 0 (λ i lt. omega (
          arith,
          lt,
          length-range_with_len 0 (length facts),
          get_or-range_with_len 0 (length facts) i 0 (omega (arith, lt, length-range_with_len 0 (length facts))),
        )))
        k d lt,
    filter_passes (is_named_at a facts) (range_with_len 0 (length facts)) k d lt,
  );
  every =
      λ p lt named. filter_from (is_named_at a facts) (range_with_len 0 (length facts)) p
      (range_has (length facts) p lt) named;
}

-- ---- lists by individual

-- one list more, which is empty, is under no number that had another
pub none_more : (lists : List (List ℕ)) (a : ℕ) → list_at (lists ++ [] ∷ []) a ≡ list_at lists a
none_more [] zero = refl
none_more [] (suc a) = refl
none_more (l ∷ lists) zero = refl
none_more (l ∷ lists) (suc a) = none_more lists a

pub put_under : (lists : List (List ℕ)) (n : ℕ) (l : List ℕ) (a : ℕ) → n < length lists
    → list_at (set lists n l) a ≡ (if eqb n a then l else list_at lists a)
put_under lists n l a lt = elim (cases_eq n a) [
  | inl same ↦ subst (λ (b : ℕ). list_at (set lists n l) b ≡ (if eqb n b then l else list_at lists b)) same
      (get_or-set_same lists n l [] lt ∙ sym (ap (λ (b : Bool). if b then l else list_at lists n) (eq-eqb n n refl)))
  | inr other ↦
      get_or-set_other lists n a l [] (λ e. other (sym e))
      ∙ sym (ap (λ (b : Bool). if b then l else list_at lists a) (ne_eqb n a other))
]

pub placed_more : (a : ℕ) (facts : List Stated) (n first last : ℕ) (before after : List ℕ)
    → first ≡ (ends_of (stated_at facts n).fact).0 → last ≡ (ends_of (stated_at facts n).fact).1
    → before ≡ places_to a facts n → after ≡ (if (eqb first a || eqb last a) then before ++ n ∷ [] else before)
    → after ≡ places_to a facts (n + 1)
placed_more a facts n first last before after is_first is_last is_before is_after =
    is_after
    ∙ ap (λ (k : ℕ). if (eqb k a || eqb last a) then before ++ n ∷ [] else before) is_first
    ∙ ap (λ (k : ℕ). if (eqb (ends_of (stated_at facts n).fact).0 a || eqb k a) then before ++ n ∷ [] else before)
    is_last
    ∙ ap (λ (ks : List ℕ). if names a (stated_at facts n).fact then ks ++ n ∷ [] else ks) is_before
    ∙ sym (one_place_more a facts n)
