-- How the pairs of a first relation come in.
use Rattle.std.proofs.Common.{◌≡◌, ℕ, ◌+◌, ◌&&◌, ◌||◌, Bool, ◌∙◌, ap, arith}
use Rattle.std.specs.Prelude.{nat_lt, ◌==◌}
use Rattle.std.proofs.lemmas.Bool.Decides.{nat_tests}
use Rattle.subsumption.specs.Matrices.{Matrix, IsMatrix, Adds}

-- what is related once the numbers below the place were gone through
abbrev pub bounded_below : ℕ → ℕ → ℕ → ℕ → ℕ → Bool
bounded_below greatest least place a b = (nat_lt a place && (a == b || b == greatest)) || (a == least && nat_lt b place)

-- three pairs more
one_more : (g l x a b : ℕ)
    → (((bounded_below g l x a b || (a == x && b == x)) || (a == x && b == g)) || (a == l && b == x)) ≡ bounded_below g
    l (x + 1) a b
one_more g l x a b = grind (arith, nat_tests)

pub three_more : (size g l x : ℕ) (m m1 m2 m3 : Matrix) → IsMatrix size (bounded_below g l x) m
    → Adds (λ a b. a == x && b == x) m m1 → Adds (λ a b. a == x && b == g) m1 m2 → Adds (λ a b. a == l && b == x) m2 m3
    → IsMatrix size (bounded_below g l (x + 1)) m3
three_more size g l x m m1 m2 m3 h a1 a2 a3 =
    let s1 : m1.size ≡ size = a1.size_is ∙ h.size_is in
    let s2 : m2.size ≡ size = a2.size_is ∙ s1 in
    record {
      size_is = a3.size_is ∙ s2;
      pairs = λ a b la lb.
          a3.pairs a b (omega (arith, la, s2)) (omega (arith, lb, s2))
          ∙ ap (λ (t : Bool). t || (a == l && b == x)) (a2.pairs a b (omega (arith, la, s1)) (omega (arith, lb, s1)))
          ∙ ap (λ (t : Bool). (t || (a == x && b == g)) || (a == l && b == x))
          (a1.pairs a b (omega (arith, la, h.size_is)) (omega (arith, lb, h.size_is)))
          ∙ ap (λ (t : Bool). ((t || (a == x && b == x)) || (a == x && b == g)) || (a == l && b == x))
          (h.pairs a b la lb)
          ∙ one_more g l x a b;
    }
