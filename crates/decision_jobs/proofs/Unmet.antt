-- The first axiom that is not met, from some place on.
use Rattle.std.proofs.Common.{◌≡◌, ℕ, zero, suc, ◌+◌, ◌-◌, List, [], ◌∷◌, Some, Bool, true, false, drop, ap, ◌∙◌}
use Rattle.std.proofs.Common.{add-one, arith}
use Rattle.std.specs.Prelude.{slice_get, if◌then◌else◌}
use Rattle.shq_terms.specs.declared.axioms.Numbered.{Numbered}
use Rattle.shq_meaning.specs.Truth.{Interpretation, meets}
use Rattle.decision_jobs.specs.Checking.{first_unmet}

unmet_at : (i : Interpretation) (k j : ℕ) (as_ : List Numbered) (a : Numbered) → Some a ≡ slice_get as_ j
    → first_unmet i k (drop j as_) ≡ (if meets i a.axiom then first_unmet i (k + 1) (drop (suc j) as_) else Some k)
unmet_at i k zero [] a h = absurd (cc h)
unmet_at i k (suc j) [] a h = absurd (cc h)
unmet_at i k zero (b ∷ as_) a h =
    let same : b ≡ a = cc h in ap (λ (n : Numbered). if meets i n.axiom then first_unmet i (k + 1) as_ else Some k) same
unmet_at i k (suc j) (b ∷ as_) a h = unmet_at i k j as_ a h

module _ (i : Interpretation) (j : ℕ) (as_ : List Numbered) (a : Numbered)
    (listed : Some a ≡ slice_get as_ (j + 1 - 1)) where
  here : Some a ≡ slice_get as_ j
  here = let same : j + 1 - 1 ≡ j = omega arith in listed ∙ ap (slice_get as_) same

  opened : (b : Bool) → meets i a.axiom ≡ b
      → first_unmet i (j + 1) (drop j as_) ≡ (if b then first_unmet i (j + 1 + 1) (drop (j + 1) as_) else Some (j + 1))
  opened b is =
      rw (add-one j)
      (unmet_at i (suc j) j as_ a here
      ∙ ap (λ (v : Bool). if v then first_unmet i (suc j + 1) (drop (suc j) as_) else Some (suc j)) is)

  pub unmet_here : meets i a.axiom ≡ false → first_unmet i (j + 1) (drop j as_) ≡ Some (j + 1)
  unmet_here is = opened false is

  pub met_here : meets i a.axiom ≡ true
      → first_unmet i (j + 1) (drop j as_) ≡ first_unmet i (j + 1 + 1) (drop (j + 1) as_)
  met_here is = opened true is
