-- Paths over bounded inner roles are chains of steps.
use Rattle.std.proofs.Common.{◌≡◌, ℕ, zero, suc, ◌<◌, ◌&&◌, ◌⊎◌, Bool, true, arith, inl, inr, subst}
use Rattle.std.proofs.lemmas.Bool.{or_cases, or_left, or_right, and_parts, and_from, cases_eq}
use Rattle.calculus_specs.specs.Roles.{IsBelow, itself, by_step}
use Rattle.role_box.specs.Paths.{has_path}

pub below-append : (Leads : ℕ → ℕ → Type 0) (r s t : ℕ) → IsBelow Leads r s → IsBelow Leads s t → IsBelow Leads r t
below-append Leads r s t b (itself x) = b
below-append Leads r s t b (by_step x y z c e) = by_step r y z (below-append Leads r x y b c) e

module _ (step : ℕ → ℕ → Bool) where
  path_more : (k r s : ℕ) → has_path step k r s ≡ true → has_path step (suc k) r s ≡ true
  path_more k r s h = or_left (has_path step k r s) (has_path step k r k && has_path step k k s) h

  path_through : (k r s : ℕ) → has_path step k r k ≡ true → has_path step k k s ≡ true
      → has_path step (suc k) r s ≡ true
  path_through k r s a b =
      or_right (has_path step k r s) (has_path step k r k && has_path step k k s)
      (and_from (has_path step k r k) (has_path step k k s) a b)

  path_cases : (k r s : ℕ) → has_path step (suc k) r s ≡ true
      → (has_path step k r s ≡ true) ⊎ ((has_path step k r k ≡ true) × (has_path step k k s ≡ true))
  path_cases k r s h = elim (or_cases (has_path step k r s) (has_path step k r k && has_path step k k s) h)
      [ inl p ↦ inl p | inr q ↦ inr (and_parts (has_path step k r k) (has_path step k k s) q) ]

  to_middle : (k r : ℕ) → has_path step (suc k) r k ≡ true → has_path step k r k ≡ true
  to_middle k r h = elim (path_cases k r k h) [ inl p ↦ p | inr q ↦ q.0 ]

  from_middle : (k s : ℕ) → has_path step (suc k) k s ≡ true → has_path step k k s ≡ true
  from_middle k s h = elim (path_cases k k s h) [ inl p ↦ p | inr q ↦ q.1 ]

  -- two paths that meet in a role below the bound are one path
  pub path-append : (k r m s : ℕ) → m < k → has_path step k r m ≡ true → has_path step k m s ≡ true
      → has_path step k r s ≡ true
  path-append zero r m s lt a b = absurd (omega arith)
  path-append (suc k) r m s lt a b =
      elim (cases_eq m k) [
        | inl e ↦
            path_through k r s (to_middle k r (subst (λ (x : ℕ). has_path step (suc k) r x ≡ true) e a))
            (from_middle k s (subst (λ (x : ℕ). has_path step (suc k) x s ≡ true) e b))
        | inr apart ↦
            (let within : m < k = omega arith in
            elim (path_cases k r m a) [
              | inl p ↦ elim (path_cases k m s b) [
                | inl q ↦ path_more k r s (path-append k r m s within p q)
                | inr q ↦ path_through k r s (path-append k r m k within p q.0) q.1
              ]
              | inr p ↦ elim (path_cases k m s b) [
                | inl q ↦ path_through k r s p.0 (path-append k k m s within p.1 q)
                | inr q ↦ path_through k r s p.0 q.1
              ]
            ])
      ]

  pub path_of_step : (k r s : ℕ) → step r s ≡ true → has_path step k r s ≡ true
  path_of_step zero r s h = h
  path_of_step (suc k) r s h = path_more k r s (path_of_step k r s h)

  -- where each step is a chain, each path is one
  pub chain_of_path : (Leads : ℕ → ℕ → Type 0) → ((r s : ℕ) → step r s ≡ true → IsBelow Leads r s) → (k r s : ℕ)
      → has_path step k r s ≡ true → IsBelow Leads r s
  chain_of_path Leads one zero r s h = one r s h
  chain_of_path Leads one (suc k) r s h =
      elim (path_cases k r s h) [
        | inl p ↦ chain_of_path Leads one k r s p
        | inr q ↦ below-append Leads r k s (chain_of_path Leads one k r k q.0) (chain_of_path Leads one k k s q.1)
      ]

  -- where each step of a chain is a step from a role below the bound, each chain is a path
  pub path_of_chain : (Leads : ℕ → ℕ → Type 0) (n : ℕ) → ((r : ℕ) → step r r ≡ true)
      → ((r s : ℕ) → Leads r s → (step r s ≡ true) × (r < n)) → (r s : ℕ) → IsBelow Leads r s
      → has_path step n r s ≡ true
  path_of_chain Leads n same one r s (itself x) = path_of_step n x x (same x)
  path_of_chain Leads n same one r s (by_step x y z b e) =
      path-append n x y z (one y z e).1 (path_of_chain Leads n same one x y b) (path_of_step n y z (one y z e).0)

-- paths are the same by steps that are the same from the roles below the bound
pub has_path-same : (f g : ℕ → ℕ → Bool) (n : ℕ) → ((r s : ℕ) → r < n → f r s ≡ g r s) → (k r s : ℕ) → k < suc n → r < n
    → has_path f k r s ≡ has_path g k r s
has_path-same f g n same zero r s le lt = same r s lt
has_path-same f g n same (suc k) r s le lt =
    let middle : k < n = omega arith in
    let below : k < suc n = omega arith in
    let a = has_path-same f g n same k r s below lt in
    let b = has_path-same f g n same k r k below lt in
    let c = has_path-same f g n same k k s below middle in
    cc
