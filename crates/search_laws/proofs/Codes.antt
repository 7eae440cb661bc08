-- Which of a list of numbers pass a test, as one number.
use Rattle.std.proofs.Common.{◌≡◌, ℕ, suc, ◌+◌, ◌*◌, ◌^◌, ◌<◌, eqb, cond, Bool, true, false, List, [], ◌∷◌, length}
use Rattle.std.proofs.Common.{refl, ap, ◌∙◌, sym, arith, inl, inr}
use Rattle.std.specs.List.{list_any}
use Rattle.std.proofs.lemmas.Bool.{or_cases, eqb-true}
use Rattle.std.proofs.Math.Nat.{pow-suc}
use Rattle.shq_terms.proofs.Bools.{counted_at_most_one}

abbrev pub code : List ℕ → (ℕ → Bool) → ℕ
code [] p = 0
code (d ∷ ds) p = code ds p + code ds p + cond (p d) 1 0

double : (a : ℕ) → a * 2 ≡ a + a
double a = omega arith

pub power_more : (n : ℕ) → 2 ^ suc n ≡ 2 ^ n + 2 ^ n
power_more n = pow-suc 2 n ∙ double (2 ^ n)

pub code_below : (ds : List ℕ) (p : ℕ → Bool) → code ds p < 2 ^ length ds
code_below [] p = omega arith
code_below (d ∷ ds) p =
    let rest = code_below ds p in let bit = counted_at_most_one (p d) in let two = power_more (length ds) in omega arith

bits_same : (a b : Bool) (m n : ℕ) → m + m + cond a 1 0 ≡ n + n + cond b 1 0 → (m ≡ n) × (a ≡ b)
bits_same true true m n e = (omega (arith, e), refl)
bits_same false false m n e = (omega (arith, e), refl)
bits_same true false m n e = absurd (omega (arith, e))
bits_same false true m n e = absurd (omega (arith, e))

-- equal numbers come from tests that agree on the list
pub code_says : (ds : List ℕ) (p q : ℕ → Bool) → code ds p ≡ code ds q → (d : ℕ) → list_any (eqb d) ds ≡ true
    → p d ≡ q d
code_says [] p q e d m = cc
code_says (c ∷ ds) p q e d m =
    let t = bits_same (p c) (q c) (code ds p) (code ds q) e in
    elim (or_cases (eqb d c) (list_any (eqb d) ds) m) [
      | inl here ↦ let k = eqb-true d c here in ap p k ∙ t.1 ∙ sym (ap q k)
      | inr later ↦ code_says ds p q t.0 d later
    ]
