-- The numbers of a range that pass a test, while they are listed.
use Rattle.std.proofs.Common.{◌≡◌, ℕ, zero, suc, ◌+◌, ◌-◌, ◌<◌, ◌≤◌, ◌&&◌, Bool, true, false, cond, List, [], ◌∷◌, ◌++◌}
use Rattle.std.proofs.Common.{map, refl, sym, ap, ◌∙◌, arith, inl, inr, append_assoc, append-nil}
use Rattle.std.specs.List.{filter, list_all}
use Rattle.std.proofs.lemmas.Bool.{cases_Bool, lt-ltb}
use Rattle.std.specs.Prelude.{nat_lt}
use Rattle.shq_meaning.specs.Below.{all_below}
use Rattle.lane_sieve.specs.Sets.{passing}
use Rattle.lane_sieve.proofs.Ranges.{passing_take, passing_skip}

-- ---- a list of them, element by element

cond_filter : (q : ℕ → Bool) (b : Bool) (a : ℕ) (xs : List ℕ)
    → filter q (cond b (a ∷ xs) xs) ≡ cond (b && q a) (a ∷ filter q xs) (filter q xs)
cond_filter q true a xs = refl
cond_filter q false a xs = refl

-- those of them that pass another test pass both
pub filter-passing : (p q : ℕ → Bool) (a n : ℕ) → filter q (passing p a n) ≡ passing (λ k. p k && q k) a n
unfolding passing
filter-passing p q a zero = refl
filter-passing p q a (suc n) =
    cond_filter q (p a) a (passing p (a + 1) n)
    ∙ ap (λ (ys : List ℕ). cond (p a && q a) (a ∷ ys) ys) (filter-passing p q (a + 1) n)

cond_map : {A : Type 0} (f : ℕ → A) (b : Bool) (a : ℕ) (xs : List ℕ)
    → map f (cond b (a ∷ xs) xs) ≡ cond b (f a ∷ map f xs) (map f xs)
cond_map f true a xs = refl
cond_map f false a xs = refl

-- the numbers before them
pub before-passing : (p : ℕ → Bool) (a n : ℕ) → map (λ k. k - 1) (passing p (a + 1) n) ≡ passing (λ x. p (x + 1)) a n
unfolding passing
before-passing p a zero = refl
before-passing p a (suc n) =
    let e : a + 1 - 1 ≡ a = omega arith in
    cond_map (λ k. k - 1) (p (a + 1)) (a + 1) (passing p (a + 1 + 1) n)
    ∙ ap (λ (x : ℕ). cond (p (a + 1)) (x ∷ map (λ k. k - 1) (passing p (a + 1 + 1) n))
    (map (λ k. k - 1) (passing p (a + 1 + 1) n)))
    e
    ∙ ap (λ (ys : List ℕ). cond (p (a + 1)) (a ∷ ys) ys) (before-passing p (a + 1) n)

-- what is made of them, where two tests and what they make are the same within the range
pub map-passing_same : {A : Type 0} (f g : ℕ → A) (p q : ℕ → Bool) (a n : ℕ) → ((k : ℕ) → a ≤ k → k < a + n → p k ≡ q k)
    → ((k : ℕ) → a ≤ k → k < a + n → f k ≡ g k) → map f (passing p a n) ≡ map g (passing q a n)
unfolding passing
map-passing_same f g p q a zero same alike = refl
map-passing_same f g p q a (suc n) same alike =
    let rest =
    map-passing_same f g p q (a + 1) n (λ k low high. same k (omega arith) (omega arith))
    (λ k low high. alike k (omega arith) (omega arith)) in
    cond_map f (p a) a (passing p (a + 1) n)
    ∙ (λ i. cond (same a (omega arith) (omega arith) i) (alike a (omega arith) (omega arith) i ∷ rest i) (rest i))
    ∙ sym (cond_map g (q a) a (passing q (a + 1) n))

cond_all : (q : ℕ → Bool) (b : Bool) (a : ℕ) (xs : List ℕ) → (b ≡ true → q a ≡ true) → list_all q xs ≡ true
    → list_all q (cond b (a ∷ xs) xs) ≡ true
cond_all q true a xs h rest = ap (λ (v : Bool). v && list_all q xs) (h refl) ∙ rest
cond_all q false a xs h rest = rest

-- they pass each test that follows from theirs within the range
pub all-passing : (q p : ℕ → Bool) (a n : ℕ) → ((k : ℕ) → a ≤ k → k < a + n → p k ≡ true → q k ≡ true)
    → list_all q (passing p a n) ≡ true
unfolding passing
all-passing q p a zero h = refl
all-passing q p a (suc n) h =
    cond_all q (p a) a (passing p (a + 1) n) (h a (omega arith) (omega arith))
    (all-passing q p (a + 1) n (λ k low high. h k (omega arith) (omega arith)))

-- so they are below a bound of the range
pub below-passing : (p : ℕ → Bool) (n : ℕ) → list_all (λ x. nat_lt x n) (passing p 0 n) ≡ true
below-passing p n = all-passing (λ x. nat_lt x n) p 0 n (λ k low high h. lt-ltb k n (omega arith))

-- ---- one after the other

-- the number of a place of the range, if it passes, and those behind it
pub passing_at : (p : ℕ → Bool) (i n : ℕ) → i < n
    → passing p i (n - i) ≡ cond (p i) (i ∷ []) [] ++ passing p (i + 1) (n - (i + 1))
passing_at p i n lt =
    let e : n - i ≡ suc (n - (i + 1)) = omega arith in
    elim (cases_Bool (p i)) [
      | inl t ↦ rw (t, e) (passing_take p i (n - (i + 1)) t)
      | inr f ↦ rw (f, e) (passing_skip p i (n - (i + 1)) f)
    ]

-- behind the last place there is none
pub passing_end : (p : ℕ → Bool) (i n : ℕ) → n ≤ i → passing p i (n - i) ≡ []
unfolding passing
passing_end p i n ge = let e : n - i ≡ 0 = omega arith in rw e refl

-- a number is listed if it passes: what is listed and what is left to list is the same as before
pub listed_more : (p : ℕ → Bool) (i n : ℕ) (b : Bool) (xs more whole : List ℕ) → i < n → b ≡ p i
    → more ≡ xs ++ cond b (i ∷ []) [] → xs ++ passing p i (n - i) ≡ whole
    → more ++ passing p (i + 1) (n - (i + 1)) ≡ whole
listed_more p i n b xs more whole lt says is all =
    let tail = passing p (i + 1) (n - (i + 1)) in
    ap (λ (ys : List ℕ). ys ++ tail) (is ∙ ap (λ (c : Bool). xs ++ cond c (i ∷ []) []) says)
    ∙ append_assoc xs (cond (p i) (i ∷ []) []) tail
    ∙ ap (λ (ys : List ℕ). xs ++ ys) (sym (passing_at p i n lt))
    ∙ all

pub listed_whole : (p : ℕ → Bool) (i n : ℕ) (xs whole : List ℕ) → n ≤ i → xs ++ passing p i (n - i) ≡ whole → xs ≡ whole
listed_whole p i n xs whole ge all =
    sym (append-nil xs) ∙ ap (λ (ys : List ℕ). xs ++ ys) (sym (passing_end p i n ge)) ∙ all

-- ---- tests of all numbers below a bound

pub all_below_same : (n : ℕ) (p q : ℕ → Bool) → ((k : ℕ) → k < n → p k ≡ q k) → all_below n p ≡ all_below n q
all_below_same zero p q same = refl
all_below_same (suc n) p q same =
    let rest = all_below_same n p q (λ k lt. same k (omega arith)) in
    let here = same n (omega arith) in rw (rest, here) refl

pub all_below_true : (n : ℕ) (p : ℕ → Bool) → ((k : ℕ) → k < n → p k ≡ true) → all_below n p ≡ true
all_below_true zero p each = refl
all_below_true (suc n) p each =
    let rest = all_below_true n p (λ k lt. each k (omega arith)) in
    let here = each n (omega arith) in rw (rest, here) refl
