-- Lists of numbers by their members.
use Rattle.std.proofs.Common.{◌≡◌, ℕ, zero, suc, ◌+◌, ◌<◌, ◌≤◌, ◌&&◌, ◌||◌, eqb, Bool, true, false, List, [], ◌∷◌}
use Rattle.std.proofs.Common.{length, get_or, refl, ap, ◌∙◌, sym, arith, inl, inr, eq-eqb, cond}
use Rattle.std.specs.List.{list_any, list_all, filter, range_with_len, IsDistinct, All, AllByRecursion, AllPairs}
use Rattle.std.specs.List.{Contains}
use Rattle.std.proofs.lemmas.Bool.{eqb-true, or_cases, cases_Bool, ne_eqb, and_parts, or_right, and_right}
use Rattle.std.proofs.lemmas.Bool.Decides.{nat_tests}
use Rattle.std.proofs.lemmas.Cmp.{nat_eq_equiv}
use Rattle.std.proofs.lemmas.List.FromFn.{length-range_with_len, get_or-range_with_len}
use Rattle.std.proofs.lemmas.List.Kept.{AllPairs-filter}
use Rattle.std.proofs.lemmas.Map.Keys.{IsDistinct-from_apart, IsDistinct-head, IsDistinct-tail}
use Rattle.std.proofs.lemmas.Map.Made.{length-from_same_keys}
use Rattle.std.proofs.Math.Bool.{and-false}
use Rattle.calculus_specs.specs.declared.facts.Fact.{Fact}
use Rattle.calculus_specs.specs.State.{node_count_from, has, is_successor, successors_from, are_apart, all_apart}
use Rattle.calculus_specs.proofs.State.{apart_back}
use Rattle.tableau_specs.specs.Clash.{filled_successors}
use Rattle.tableau_specs.proofs.PlainClash.{successor_is_node}
use Rattle.step_finders.specs.Filled.{AreFilled, AreUnapart}
use Rattle.step_finders.proofs.Edges.{any_at}

-- ---- members of a filtered list and of a row

one_kept : (e a p q : Bool) → (e ≡ true → p ≡ q) → (cond p (e || (a && q)) (a && q)) ≡ ((e || a) && q)
one_kept false a true q same = refl
one_kept false a false q same = refl
one_kept true a true true same = refl
one_kept true a false false same = and_right a false refl
one_kept true a true false same = (let k = same refl in cc)
one_kept true a false true same = (let k = same refl in cc)

any_cond : (f : ℕ → Bool) (b : Bool) (x : ℕ) (xs : List ℕ)
    → list_any f (cond b (x ∷ xs) xs) ≡ cond b (f x || list_any f xs) (list_any f xs)
any_cond f true x xs = refl
any_cond f false x xs = refl

pub member_filter : (p : ℕ → Bool) (y : ℕ) (xs : List ℕ) → list_any (eqb y) (filter p xs) ≡ (list_any (eqb y) xs && p y)
member_filter p y [] = refl
member_filter p y (x ∷ xs) =
    any_cond (eqb y) (p x) x (filter p xs)
    ∙ ap (λ (t : Bool). cond (p x) (eqb y x || t) t) (member_filter p y xs)
    ∙ one_kept (eqb y x) (list_any (eqb y) xs) (p x) (p y) (λ e. ap p (sym (eqb-true y x e)))

not_first : (z a : ℕ) → a ≤ z → eqb z a ≡ false → a + 1 ≤ z
not_first z a le miss = grind (arith, nat_tests)

pub member_row : (z a n : ℕ) → a ≤ z → z < a + n → list_any (eqb z) (range_with_len a n) ≡ true
member_row z a zero le lt = absurd (omega arith)
member_row z a (suc n) le lt = elim (cases_Bool (eqb z a)) [
  | inl hit ↦ rw hit refl
  | inr miss ↦ rw miss (member_row z (a + 1) n (not_first z a le miss) (omega arith))
]

row_ascending : (n : ℕ) → AllPairs (λ y z. y < z) (range_with_len 0 n)
row_ascending n i j d lt mt =
    omega (
      arith,
      lt,
      get_or-range_with_len 0 n i d (omega (arith, mt, length-range_with_len 0 n)),
      get_or-range_with_len 0 n j d (omega (arith, mt, length-range_with_len 0 n)),
    )

-- ---- the successors that are counted, by either list

node_and : (a b c : Bool) → (b ≡ true → a ≡ true) → ((a && b) && c) ≡ (b && c)
node_and a false c h = ap (λ (t : Bool). t && c) (and-false a)
node_and true true c h = refl
node_and false true c h = (let k = h refl in cc)

module _ (first : ℕ) (below : ℕ → ℕ → Bool) (fs : List (Fact ℕ)) (x s e : ℕ) where
  abbrev roles : ℕ → Bool
  roles r = below r s

  pub member_filled : (y : ℕ)
      → list_any (eqb y) (filled_successors first below fs x s e) ≡ (is_successor fs roles x y && has fs y e)
  member_filled y =
      member_filter (λ z. has fs z e) y (successors_from first fs roles x)
      ∙ ap (λ (t : Bool). t && has fs y e)
      (member_filter (is_successor fs roles x) y (range_with_len 0 (node_count_from first fs)))
      ∙ node_and (list_any (eqb y) (range_with_len 0 (node_count_from first fs))) (is_successor fs roles x y)
      (has fs y e)
      (λ h. member_row y 0 (node_count_from first fs) (omega arith)
      (omega (arith, successor_is_node first fs roles x y h)))

  pub filled_ascending : AllPairs (λ y z. y < z) (filled_successors first below fs x s e)
  filled_ascending =
      AllPairs-filter (λ y z. y < z) (λ v. has fs v e) (successors_from first fs roles x)
      (AllPairs-filter (λ y z. y < z) (is_successor fs roles x) (range_with_len 0 (node_count_from first fs))
      (row_ascending (node_count_from first fs)))

  pub filled_distinct : IsDistinct eqb (filled_successors first below fs x s e)
  filled_distinct =
      IsDistinct-from_apart eqb (filled_successors first below fs x s e)
      (λ i j d lt mt. ne_eqb (get_or (filled_successors first below fs x s e) i d)
      (get_or (filled_successors first below fs x s e) j d)
      (λ k. absurd (omega (arith, k, filled_ascending i j d lt mt))))

  module _ (ys : List ℕ) (is : AreFilled below fs x s e ys) where
    pub same_members : (y : ℕ) → list_any (eqb y) ys ≡ list_any (eqb y) (filled_successors first below fs x s e)
    same_members y = is.members y ∙ sym (member_filled y)

    pub same_length : length ys ≡ length (filled_successors first below fs x s e)
    same_length =
        length-from_same_keys nat_eq_equiv ys (filled_successors first below fs x s e) is.distinct filled_distinct
        same_members

-- ---- an element and its place

pub contains_member : (y : ℕ) (ys : List ℕ) → Contains ys y → list_any (eqb y) ys ≡ true
contains_member y ys c = any_at (eqb y) ys c.0 y c.1 (eq-eqb y (get_or ys c.0 y) (sym c.2))

suc_place : (z v : ℕ) (ys : List ℕ) → Contains ys v → Contains (z ∷ ys) v
suc_place z v ys c = (suc c.0, omega (arith, c.1), c.2)

pub member_contains : (y : ℕ) (ys : List ℕ) → list_any (eqb y) ys ≡ true → Contains ys y
member_contains y [] h = cc
member_contains y (z ∷ ys) h = elim (or_cases (eqb y z) (list_any (eqb y) ys) h) [
  | inl here ↦ (0, omega arith, sym (eqb-true y z here))
  | inr later ↦ suc_place z y ys (member_contains y ys later)
]

-- ---- pairs that are apart

pub all_at : (p : ℕ → Bool) (y : ℕ) (ys : List ℕ) → list_all p ys ≡ true → list_any (eqb y) ys ≡ true → p y ≡ true
all_at p y [] h m = cc
all_at p y (z ∷ ys) h m =
    let t = and_parts (p z) (list_all p ys) h in
    elim (or_cases (eqb y z) (list_any (eqb y) ys) m) [
      | inl here ↦ ap p (eqb-true y z here) ∙ t.0
      | inr later ↦ all_at p y ys t.1 later
    ]

pub all_from : (p : ℕ → Bool) (ys : List ℕ) → ((y : ℕ) → list_any (eqb y) ys ≡ true → p y ≡ true) → list_all p ys ≡ true
all_from p [] h = refl
all_from p (z ∷ ys) h =
    rw (h z (rw (eq-eqb z z refl) refl)) (all_from p ys (λ y m. h y (or_right (eqb y z) (list_any (eqb y) ys) m)))

not_head : (y z : ℕ) (ys : List ℕ) → AllByRecursion (λ v. eqb y v ≡ false) ys → list_any (eqb z) ys ≡ true → y ≡ z → ⊥
not_head y z [] d m e = cc
not_head y z (v ∷ ys) d m e = elim (or_cases (eqb z v) (list_any (eqb z) ys) m) [
  | inl here ↦ (let k = eq-eqb y v (e ∙ eqb-true z v here) in let l = d.0 in cc)
  | inr later ↦ not_head y z ys d.1 later e
]

module _ (fs : List (Fact ℕ)) where
  pub pair_apart : (ys : List ℕ) (a b : ℕ) → all_apart fs ys ≡ true → list_any (eqb a) ys ≡ true
      → list_any (eqb b) ys ≡ true → ¬ (a ≡ b) → are_apart fs a b ≡ true
  pair_apart [] a b h ma mb ne = cc
  pair_apart (y ∷ ys) a b h ma mb ne =
      let t = and_parts (list_all (are_apart fs y) ys) (all_apart fs ys) h in
      elim (or_cases (eqb a y) (list_any (eqb a) ys) ma) [
        | inl a-here ↦ elim (or_cases (eqb b y) (list_any (eqb b) ys) mb) [
          | inl b-here ↦ absurd (ne (eqb-true a y a-here ∙ sym (eqb-true b y b-here)))
          | inr b-later ↦
              ap (λ (v : ℕ). are_apart fs v b) (eqb-true a y a-here) ∙ all_at (are_apart fs y) b ys t.0 b-later
        ]
        | inr a-later ↦ elim (or_cases (eqb b y) (list_any (eqb b) ys) mb) [
          | inl b-here ↦
              apart_back fs a b ∙ ap (λ (v : ℕ). are_apart fs v a) (eqb-true b y b-here)
              ∙ all_at (are_apart fs y) a ys t.0 a-later
          | inr b-later ↦ pair_apart ys a b t.1 a-later b-later ne
        ]
      ]

  pub apart_from_pairs : (ys : List ℕ) → IsDistinct eqb ys
      → ((a b : ℕ) → list_any (eqb a) ys ≡ true → list_any (eqb b) ys ≡ true → ¬ (a ≡ b) → are_apart fs a b ≡ true)
      → all_apart fs ys ≡ true
  apart_from_pairs [] d h = refl
  apart_from_pairs (y ∷ ys) d h =
      let first : list_all (are_apart fs y) ys ≡ true =
      all_from (are_apart fs y) ys
      (λ z m. h y z (rw (eq-eqb y y refl) refl) (or_right (eqb z y) (list_any (eqb z) ys) m)
      (λ e. not_head y z ys (IsDistinct-head eqb y ys d) m e)) in
      rw first (apart_from_pairs ys (IsDistinct-tail eqb y ys d)
      (λ a b ma mb ne. h a b (or_right (eqb a y) (list_any (eqb a) ys) ma) (or_right (eqb b y) (list_any (eqb b) ys) mb)
      ne))

  pub same_apart : (first : ℕ) (below : ℕ → ℕ → Bool) (x s e : ℕ) (ys : List ℕ) → AreFilled below fs x s e ys
      → all_apart fs ys ≡ true → all_apart fs (filled_successors first below fs x s e) ≡ true
  same_apart first below x s e ys is h =
      apart_from_pairs (filled_successors first below fs x s e) (filled_distinct first below fs x s e)
      (λ a b ma mb ne. pair_apart ys a b h (same_members first below fs x s e ys is a ∙ ma)
      (same_members first below fs x s e ys is b ∙ mb) ne)

  pub same_unapart : (first : ℕ) (below : ℕ → ℕ → Bool) (x s e : ℕ) (ys : List ℕ) (y z : ℕ)
      → AreFilled below fs x s e ys → AreUnapart fs ys y z → AreUnapart fs (filled_successors first below fs x s e) y z
  same_unapart first below x s e ys y z is h = record {
    has_one =
        member_contains y (filled_successors first below fs x s e)
        (sym (same_members first below fs x s e ys is y) ∙ contains_member y ys h.has_one);
    has_other =
        member_contains z (filled_successors first below fs x s e)
        (sym (same_members first below fs x s e ys is z) ∙ contains_member z ys h.has_other);
    differ = h.differ;
    unapart = h.unapart;
  }

-- ---- the nodes of the list

member_at : (ys : List ℕ) (k d : ℕ) → k < length ys → list_any (eqb (get_or ys k d)) ys ≡ true
member_at [] k d lt = absurd (omega arith)
member_at (y ∷ ys) zero d lt = rw (eq-eqb y y refl) refl
member_at (y ∷ ys) (suc k) d lt = elim (eqb (get_or ys k d) y) as
    (λ (b : Bool). (b || list_any (eqb (get_or ys k d)) ys) ≡ true)
    [ true ↦ refl | false ↦ member_at ys k d (omega arith) ]

pub filled_nodes : (first : ℕ) (below : ℕ → ℕ → Bool) (fs : List (Fact ℕ)) (x s e : ℕ) (ys : List ℕ)
    → AreFilled below fs x s e ys → All (λ y. y < node_count_from first fs) ys
filled_nodes first below fs x s e ys are k d lt =
    let y = get_or ys k d in
    successor_is_node first fs (λ r. below r s) x y
    (and_parts (is_successor fs (λ r. below r s) x y) (has fs y e) (sym (are.members y) ∙ member_at ys k d lt)).0
