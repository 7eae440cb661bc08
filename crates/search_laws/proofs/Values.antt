-- The numbers of kept steps, read as the digits of one number, rise with each step.
use Rattle.std.proofs.Common.{◌≡◌, ℕ, zero, suc, ◌+◌, ◌*◌, ◌^◌, ◌<◌, ◌≤◌, List, [], ◌∷◌, ◌++◌, length, arith}
use Rattle.std.proofs.Common.{length-append}
use Rattle.std.proofs.lemmas.Nat.{mul-le}
use Rattle.std.proofs.Math.Nat.{pow-zero, pow-suc, one-le-pow}
use Rattle.search_laws.proofs.KeptSteps.{IsNext}
use Rattle.search_laws.proofs.KeptSteps.IsNext.{on, back_at}

-- the value of digits of which the first is worth the most, where so many have room
abbrev pub value : ℕ → ℕ → List ℕ → ℕ
value b zero ns = 0
value b (suc top) [] = 0
value b (suc top) (n ∷ ns) = n * (b + 1) ^ top + value b top ns

abbrev pub AreAtMost : ℕ → List ℕ → Type 0
AreAtMost b [] = Unit {0}
AreAtMost b (n ∷ ns) = (n ≤ b) × AreAtMost b ns

power_pos : (b n : ℕ) → 1 ≤ (b + 1) ^ n
power_pos b n = one-le-pow n (b + 1) (omega arith)

split_power : (b p : ℕ) → p * (b + 1) ≡ b * p + p
split_power b p = grind arith

split_one : (n p : ℕ) → (n + 1) * p ≡ n * p + p
split_one n p = grind arith

pub value_below : (b top : ℕ) (ns : List ℕ) → AreAtMost b ns → value b top ns + 1 ≤ (b + 1) ^ top
value_below b zero ns h = omega (arith, pow-zero (b + 1))
value_below b (suc top) [] h = omega (arith, power_pos b (suc top))
value_below b (suc top) (n ∷ ns) h =
    let rest = value_below b top ns h.1 in
    let p = (b + 1) ^ top in
    let first = mul-le n p b p h.0 (omega arith) in
    omega (arith, pow-suc (b + 1) top, split_power b p)

value_on : (b top : ℕ) (ns : List ℕ) (n : ℕ) → 0 < n → length ns < top → value b top ns + 1 ≤ value b top (ns ++ n ∷ [])
value_on b zero ns n pos lt = absurd (omega arith)
value_on b (suc top) [] n pos lt =
    let p = (b + 1) ^ top in
    let more = mul-le 1 p n p (omega arith) (omega arith) in
    let one : 1 * p ≡ p = grind arith in
    omega (arith, power_pos b top)
value_on b (suc top) (m ∷ ns) n pos lt = let rest = value_on b top ns n pos (omega arith) in omega arith

value_back : (b top : ℕ) (before after : List ℕ) (n : ℕ) → length before < top → AreAtMost b (before ++ n ∷ after)
    → value b top (before ++ n ∷ after) + 1 ≤ value b top (before ++ (n + 1) ∷ [])
value_back b zero before after n lt h = absurd (omega arith)
value_back b (suc top) [] after n lt h =
    let rest = value_below b top after h.1 in
    omega (arith, split_one n ((b + 1) ^ top))
value_back b (suc top) (m ∷ before) after n lt h =
    let rest = value_back b top before after n (omega arith) h.1 in omega arith

-- the digits after a step, of which all have room
pub value_rises : (b top : ℕ) (ns ms : List ℕ) → IsNext ns ms → AreAtMost b ns → length ms ≤ top
    → value b top ns + 1 ≤ value b top ms
value_rises b top ns ms (on ns' n pos) small room = value_on b top ns' n pos (omega (arith, length-append ns' (n ∷ [])))
value_rises b top ns ms (back_at before after n) small room =
    value_back b top before after n (omega (arith, length-append before ((n + 1) ∷ []))) small
