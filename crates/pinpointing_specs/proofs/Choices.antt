-- Cases on finite sets and lists.
use Rattle.std.proofs.Common.{◌≡◌, ◌≢◌, ℕ, zero, suc, ◌+◌, ◌≤◌, ◌||◌, not, Bool, true, false, eqb, List, [], ◌∷◌, ◌⊎◌}
use Rattle.std.proofs.Common.{refl, sym, ap, ◌∙◌, subst, arith, inl, inr, eq-eqb}
use Rattle.std.specs.List.{Contains, list_any}
use Rattle.std.specs.Cmp.{nat_cmp_total, unsigned_tied}
use Rattle.std.specs.Ordering.{nat_cmp, eq_by_cmp}
use Rattle.std.specs.FinSet as set
use Rattle.std.proofs.lemmas.Bool.{cases_Bool, false≢true, true≢false, and_parts, ne_eqb, cases_eq}
use Rattle.std.proofs.lemmas.List.Elements.{Contains-append_right, Contains-append_cases}
use Rattle.axiom_sets.specs.NumberSets.{NumberSet, IsPart, DoMeet}
use Rattle.axiom_sets.proofs.Bits.{contains_insert, contains_remove}
use Rattle.axiom_sets.specs.Sets.{Limited}
use Rattle.pinpointing_specs.specs.Smallest.{numbers_to, rest}

first_of_items : (s : NumberSet) (ks : List ℕ) → set.items s ≡ ks
    → ((k : ℕ) × (set.contains s k ≡ true)) ⊎ ((k : ℕ) → set.contains s k ≡ false)
first_of_items s [] e = inr (λ k. set.contains-items s k ∙ ap (list_any (eq_by_cmp nat_cmp k)) e)
first_of_items s (k ∷ ks) e =
    inl (
      k,
      set.contains-items s k ∙ ap (list_any (eq_by_cmp nat_cmp k)) e
          ∙ ap (λ (b : Bool). b || list_any (eq_by_cmp nat_cmp k) ks) (unsigned_tied k k ∙ eq-eqb k k refl),
    )

-- a set has a member or has none
pub some_or_none : (s : NumberSet) → ((k : ℕ) × (set.contains s k ≡ true)) ⊎ ((k : ℕ) → set.contains s k ≡ false)
some_or_none s = first_of_items s (set.items s) refl

pub in_difference : (s t : NumberSet) (k : ℕ) → set.contains (set.difference s t) k ≡ true
    → (set.contains s k ≡ true) × (set.contains t k ≡ false)
in_difference s t k h =
    let both =
    and_parts (set.contains s k) (not (set.contains t k)) (sym (set.contains-difference nat_cmp_total s t k) ∙ h) in (
      both.0,
      (elim (cases_Bool (set.contains t k))
          [ inl yes' ↦ absurd (false≢true (ap not (sym yes') ∙ both.1)) | inr no' ↦ no' ]),
    )

pub to_difference : (s t : NumberSet) (k : ℕ) → set.contains s k ≡ true → set.contains t k ≡ false
    → set.contains (set.difference s t) k ≡ true
to_difference s t k h none = set.contains-difference nat_cmp_total s t k ∙ rw (h, none) refl

out_difference : (s t : NumberSet) (k : ℕ) → set.contains (set.difference s t) k ≡ false → set.contains s k ≡ true
    → set.contains t k ≡ true
out_difference s t k h member =
    elim (cases_Bool (set.contains t k))
    [ inl yes' ↦ yes' | inr no' ↦ absurd (true≢false (sym (to_difference s t k member no') ∙ h)) ]

-- s is part of t, or has a member that t lacks
pub part_or_more : (s t : NumberSet) → IsPart s t ⊎ ((k : ℕ) × (set.contains s k ≡ true) × (set.contains t k ≡ false))
part_or_more s t =
    elim (some_or_none (set.difference s t)) [
      | inl some ↦ let both = in_difference s t some.0 some.1 in inr (some.0, both.0, both.1)
      | inr none ↦ inl (λ k member. out_difference s t k (none k) member)
    ]

only : {X : Type 0} (y x : X) → Contains (y ∷ []) x → y ≡ x
only y x (zero, lt, e) = e
only y x (suc k, lt, e) = absurd (omega (arith, lt))

-- of a choice for each element: one of the first kind, or all of the second
pub one_or_each : {X : Type 0} (P Q : X → Type 0) → ((x : X) → P x ⊎ Q x) → (xs : List X)
    → ((x : X) × Contains xs x × P x) ⊎ ((x : X) → Contains xs x → Q x)
one_or_each P Q choose [] = inr (λ x h. absurd (omega (arith, h.1)))
one_or_each {X} P Q choose (y ∷ ys) =
    elim (choose y) [
      | inl here ↦ inl (y, (0, omega arith, refl), here)
      | inr other ↦ elim (one_or_each P Q choose ys) [
        | inl later ↦ inl (later.0, Contains-append_right (y ∷ []) ys later.0 later.1, later.2)
        | inr none ↦ inr (λ x h. elim (Contains-append_cases (y ∷ []) ys x h) [
          | inl first ↦ subst Q (only y x first) other
          | inr last ↦ none x last
        ])
      ]
    ]

-- ---- all numbers, and the rest of a set

pub in_numbers_to : (n k : ℕ) → 1 ≤ k → k ≤ n → set.contains (numbers_to n) k ≡ true
unfolding numbers_to
in_numbers_to zero k low high = absurd (omega arith)
in_numbers_to (suc n) k low high =
    contains_insert (numbers_to n) (n + 1) k
    ∙ (elim (cases_eq k (n + 1)) [
      | inl e ↦ rw (eq-eqb k (n + 1) e) refl
      | inr ne ↦ rw (ne_eqb k (n + 1) ne) (in_numbers_to n k low (omega arith))
    ])

pub to_rest : (s : Limited) (k : ℕ) → 1 ≤ k → k ≤ s.limit → set.contains s.members k ≡ false
    → set.contains (rest s) k ≡ true
to_rest s k low high none = to_difference (numbers_to s.limit) s.members k (in_numbers_to s.limit k low high) none

pub in_rest : (s : Limited) (k : ℕ) → set.contains (rest s) k ≡ true → set.contains s.members k ≡ false
in_rest s k h = (in_difference (numbers_to s.limit) s.members k h).1

-- a part of t has a greater rest
pub rest_of_part : (s t : Limited) → s.limit ≡ t.limit → IsPart s.members t.members → IsPart (rest t) (rest s)
rest_of_part s t e part k h =
    let both = in_difference (numbers_to t.limit) t.members k h in
    to_difference (numbers_to s.limit) s.members k (ap (λ n. set.contains (numbers_to n) k) e ∙ both.0)
    (elim (cases_Bool (set.contains s.members k))
    [ inl yes' ↦ absurd (true≢false (sym (part k yes') ∙ both.1)) | inr no' ↦ no' ])

-- ---- without one member

pub in_without : (s : NumberSet) (n k : ℕ) → set.contains (set.remove s n) k ≡ true
    → (k ≢ n) × (set.contains s k ≡ true)
in_without s n k h =
    let both = and_parts (not (eqb k n)) (set.contains s k) (sym (contains_remove s n k) ∙ h) in (
      λ same. false≢true (ap not (sym (eq-eqb k n same)) ∙ both.0),
      both.1,
    )

pub to_without : (s : NumberSet) (n k : ℕ) → k ≢ n → set.contains s k ≡ true → set.contains (set.remove s n) k ≡ true
to_without s n k ne member = contains_remove s n k ∙ rw (ne_eqb k n ne) member

-- two sets meet, or are apart
pub meet_or_apart : (s t : NumberSet) → DoMeet s t ⊎ ((k : ℕ) → set.contains s k ≡ true → set.contains t k ≡ false)
meet_or_apart s t =
    elim (some_or_none (set.intersection s t)) [
      | inl some ↦
          let both =
          and_parts (set.contains s some.0) (set.contains t some.0)
          (sym (set.contains-intersection nat_cmp_total s t some.0) ∙ some.1) in
          inl (some.0, both.0, both.1)
      | inr none ↦
          inr (λ k h. elim (cases_Bool (set.contains t k)) [
            | inl yes' ↦
                absurd (true≢false (sym (set.contains-intersection nat_cmp_total s t k ∙ rw (h, yes') refl) ∙ none k))
            | inr no' ↦ no'
          ])
    ]
