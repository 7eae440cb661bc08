-- Tests of numbers below a bound, one more at a time.
use Rattle.std.proofs.Common.{◌≡◌, ℕ, zero, suc, ◌+◌, ◌&&◌, ◌||◌, eqb, Bool, true, false, refl, ap, ◌∙◌, sym, arith}
use Rattle.std.proofs.Common.{inl, inr, add-one, eq-eqb}
use Rattle.std.specs.Prelude.{nat_lt}
use Rattle.std.proofs.lemmas.Bool.{cases_eq, ne_eqb}
use Rattle.std.proofs.lemmas.Bool.Decides.{nat_tests}
use Rattle.std.proofs.Math.Bool.{or-false, and-false}
use Rattle.role_box.specs.Closure.{any_below}

-- ---- truth tables

pub or_absorbs : (a b c : Bool) → a ≡ c → (a || b) ≡ (a || b || c)
or_absorbs true b c h = refl
or_absorbs false true c h = refl
or_absorbs false false c h = h

-- ---- bounds

pub lt_none : (n : ℕ) → nat_lt n 0 ≡ false
lt_none n = grind (arith, nat_tests)

lt_next : (n m : ℕ) → n ≡ m → nat_lt m (n + 1) ≡ true
lt_next n m e = grind (arith, nat_tests)

lt_other : (n m : ℕ) → ¬ (n ≡ m) → nat_lt m (n + 1) ≡ nat_lt m n
lt_other n m ne = grind (arith, nat_tests)

-- one number more is below the bound
pub lt_more : (n m : ℕ) → nat_lt m (n + 1) ≡ (nat_lt m n || eqb n m)
lt_more n m = elim (cases_eq n m) [
  | inl e ↦ lt_next n m e ∙ sym (ap (λ (b : Bool). nat_lt m n || b) (eq-eqb n m e) ∙ or_true (nat_lt m n))
  | inr ne ↦ lt_other n m ne ∙ sym (ap (λ (b : Bool). nat_lt m n || b) (ne_eqb n m ne) ∙ or-false (nat_lt m n))
]
  where
    or_true : (a : Bool) → (a || true) ≡ true
    or_true true = refl
    or_true false = refl

-- ---- one number below a bound

same_or : (l e p q a b : Bool) → (e ≡ true → p ≡ q)
    → ((l && (q && a && b)) || (p && (e && a && b))) ≡ ((l || e) && (q && a && b))
same_or l false p q a b h =
    ap (λ (c : Bool). (l && (q && a && b)) || c) (and-false p) ∙ or-false (l && (q && a && b))
    ∙ sym (ap (λ (c : Bool). c && (q && a && b)) (or-false l))
same_or l true p q a b h = ap (λ (c : Bool). (l && (q && a && b)) || (c && (a && b))) (h refl) ∙ joined l q a b
  where
    joined : (l q a b : Bool) → ((l && (q && a && b)) || (q && (a && b))) ≡ ((l || true) && (q && a && b))
    joined true true true true = refl
    joined true true true false = refl
    joined true true false b = refl
    joined true false a b = refl
    joined false true true b = refl
    joined false true false b = refl
    joined false false a b = refl

-- the number s is below the bound and passes
pub one_below : (n s : ℕ) (p : ℕ → Bool) (a b : Bool)
    → any_below n (λ u. p u && (eqb u s && a && b)) ≡ (nat_lt s n && (p s && a && b))
one_below zero s p a b = sym (ap (λ (c : Bool). c && (p s && a && b)) (lt_none s))
one_below (suc n) s p a b =
    ap (λ (c : Bool). c || (p n && (eqb n s && a && b))) (one_below n s p a b)
    ∙ same_or (nat_lt s n) (eqb n s) (p n) (p s) a b (λ e. ap p (is_same n s e))
    ∙ ap (λ (c : Bool). c && (p s && a && b)) (sym (lt_more n s) ∙ ap (λ (k : ℕ). nat_lt s k) (add-one n))
  where
    is_same : (n s : ℕ) → eqb n s ≡ true → n ≡ s
    is_same n s h = grind (arith, nat_tests)
