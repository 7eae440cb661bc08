-- Values by number, one more at a time.
use Rattle.std.proofs.Common.{◌≡◌, ℕ, ◌+◌, ◌<◌, ◌≤◌, List, [], ◌∷◌, ◌++◌, length, get_or, sym, subst, arith, inl, inr}
use Rattle.std.proofs.lemmas.Bool.{cases_lt}
use Rattle.std.proofs.lemmas.List.{get_or_append_left, get_or_push}
use Rattle.std.proofs.Math.ListN.{get_or-eq_default}
use Rattle.calculus_specs.specs.Shape.{Shape, shape_of}
use Rattle.calculus_specs.specs.Shape.Shape.{top}

module _ {A : Type 0} (P : ℕ → A → Type 0) (d : A) where
  pub each_pushed : (n : ℕ) (xs : List A) (x : A) → length xs ≡ n → ((c : ℕ) → c < n → P c (get_or xs c d)) → P n x
      → (c : ℕ) → c < n + 1 → P c (get_or (xs ++ x ∷ []) c d)
  each_pushed n xs x long each here c lt = elim (cases_lt c n) [
    | inl earlier ↦
        subst (P c) (sym (get_or_append_left xs (x ∷ []) d c (omega (arith, long, earlier)))) (each c earlier)
    | inr later ↦
        let same : n ≡ c = omega arith in
        subst (λ (k : ℕ). P k (get_or (xs ++ x ∷ []) k d)) same (subst (P n) (sym (get_or_push xs x d n long)) here)
  ]

  -- there are none from some number on
  pub each_number : (n : ℕ) (xs : List A) → length xs ≡ n → ((c : ℕ) → c < n → P c (get_or xs c d))
      → ((c : ℕ) → n ≤ c → P c d) → (c : ℕ) → P c (get_or xs c d)
  each_number n xs long each behind c = elim (cases_lt c n) [
    | inl earlier ↦ each c earlier
    | inr later ↦ subst (P c) (sym (get_or-eq_default xs d (omega (arith, long, later)))) (behind c later)
  ]

pub no_shape : (table : List Shape) (c : ℕ) → length table ≤ c → shape_of table c ≡ top
no_shape table c le = get_or-eq_default table top le
