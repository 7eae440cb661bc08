-- Where some number below a bound passes a test, one of them is the least.
use Rattle.std.proofs.Common.{◌≡◌, ℕ, zero, suc, ◌<◌, Bool, true, false, not, refl, sym, ◌∙◌, ap, arith}
use Rattle.std.proofs.lemmas.Bool.{and_from}
use Rattle.shq_meaning.specs.Below.{all_below}
use Rattle.shq_meaning.specs.Least.{IsLeastBelow}
use Rattle.shq_meaning.proofs.Below.{all_below-false}

-- no number below a bound passes, or one does so first
data Searched (p : ℕ → Bool) (n : ℕ) : Type 0 where
  none : all_below n (λ y. not (p y)) ≡ true → Searched p n
  found : (y : ℕ) → y < n → p y ≡ true → all_below y (λ z. not (p z)) ≡ true → Searched p n

searched : (p : ℕ → Bool) (n : ℕ) → Searched p n
searched p zero = none refl
searched p (suc n) = by (searched p n) (p n) refl
  where
    by : Searched p n → (b : Bool) → p n ≡ b → Searched p (suc n)
    by (found y less passes first) b at = found y (omega (arith, less)) passes first
    by (none fails) true at = found n (omega arith) at fails
    by (none fails) false at = none (and_from (all_below n (λ y. not (p y))) (not (p n)) fails (ap not at))

pub least_below : (p : ℕ → Bool) (n x : ℕ) → x < n → p x ≡ true → (y : ℕ) × IsLeastBelow n p y
least_below p n x less passes = by (searched p n)
  where
    by : Searched p n → (y : ℕ) × IsLeastBelow n p y
    by (found y below holds first) = (y, record { below = below; passes = holds; least = first })
    by (none fails) =
        let clash : true ≡ false = sym fails ∙ all_below-false n (λ y. not (p y)) x less (ap not passes) in
        absurd (cc clash)
