-- The prints of lists: each number of a list has its bit.
use Rattle.std.proofs.Common.{◌≡◌, ℕ, zero, suc, ◌%◌, Bool, true, false, List, [], ◌∷◌, ◌++◌, take, ap, sym, ◌∙◌, inl}
use Rattle.std.proofs.Common.{inr}
use Rattle.std.specs.Prelude.{◌==◌, ◌||◌}
use Rattle.std.specs.List.{list_any}
use Rattle.std.specs.Cmp.{nat_cmp_total}
use Rattle.std.specs.Ordering.{nat_cmp, eq_by_cmp}
use Rattle.std.proofs.lemmas.Cmp.{eq_by_cmp_equiv}
use Rattle.std.specs.FinSet as set
use Rattle.std.proofs.lemmas.Bool.{cases_eq, eqb-true, or_cases, or_left, or_right}
use Rattle.lane_sieve.specs.Sets.{number_set}
use Rattle.fact_tree.specs.Short.{ArePrinted}
use Rattle.fact_tree.proofs.Content.{any-snoc}

any_in_front : (p : ℕ → Bool) (n : ℕ) (xs : List ℕ) → list_any p (take n xs) ≡ true → list_any p xs ≡ true
any_in_front p zero xs h = cc
any_in_front p (suc n) [] h = h
any_in_front p (suc n) (x ∷ xs) h = elim (or_cases (p x) (list_any p (take n xs)) h) [
  | inl here ↦ or_left (p x) (list_any p xs) here
  | inr later ↦ or_right (p x) (list_any p xs) (any_in_front p n xs later)
]

pub printed_taken : (n : ℕ) (cs bits : List ℕ) → ArePrinted cs bits → ArePrinted (take n cs) bits
printed_taken n cs bits h = record { each = λ c there. h.each c (any_in_front (λ d. d == c) n cs there) }

-- one bit more does no harm
pub printed_more : (cs bits bits' : List ℕ) (k : ℕ) → number_set bits' ≡ set.insert (number_set bits) k
    → ArePrinted cs bits → ArePrinted cs bits'
printed_more cs bits bits' k is h = record {
  each = λ c there.
      ap (λ (s : set.FinSet nat_cmp). set.contains s (c % 256)) is
      ∙ set.contains-insert nat_cmp_total (number_set bits) k (c % 256)
      ∙ or_right (eq_by_cmp nat_cmp (c % 256) k) (set.contains (number_set bits) (c % 256)) (h.each c there);
}

pub printed_put : (cs bits bits' : List ℕ) (c : ℕ) → number_set bits' ≡ set.insert (number_set bits) (c % 256)
    → ArePrinted cs bits → ArePrinted (cs ++ c ∷ []) bits'
printed_put cs bits bits' c is h = record {
  each = λ e there. elim (cases_eq e c) [
    | inl same ↦
        ap (λ (n : ℕ). set.contains (number_set bits') (n % 256)) same
        ∙ ap (λ (s : set.FinSet nat_cmp). set.contains s (c % 256)) is
        ∙ set.contains-insert nat_cmp_total (number_set bits) (c % 256) (c % 256)
        ∙ or_left (eq_by_cmp nat_cmp (c % 256) (c % 256)) (set.contains (number_set bits) (c % 256))
        ((eq_by_cmp_equiv nat_cmp_total).refl (c % 256))
    | inr other ↦
        (printed_more cs bits bits' (c % 256) is h).each e (old e other (sym (any-snoc (λ d. d == e) cs c) ∙ there))
  ];
}
  where
    old : (e : ℕ) → (e ≡ c → ⊥) → (list_any (λ d. d == e) cs || c == e) ≡ true → list_any (λ d. d == e) cs ≡ true
    old e other h = elim (or_cases (list_any (λ d. d == e) cs) (c == e) h) [
      | inl there ↦ there
      | inr last ↦ absurd (other (sym (eqb-true c e last)))
    ]

-- top alone
pub printed_top : (cs bits bits' : List ℕ) → cs ≡ [] → number_set bits' ≡ set.insert (number_set bits) 0
    → ArePrinted (cs ++ 0 ∷ []) bits'
printed_top cs bits bits' none is = printed_put cs bits bits' 0 is
    (record { each = λ c there. absurd (let e : false ≡ true = sym (ap (list_any (λ d. d == c)) none) ∙ there in cc) })
