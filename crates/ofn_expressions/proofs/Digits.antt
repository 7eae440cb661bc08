-- Numbers that are cut at 101 while they are read, and names without a colon.
use Rattle.std.proofs.Common.{◌≡◌, ℕ, ◌+◌, ◌*◌, ◌<◌, ◌≤◌, Bool, not, true, false, ◌||◌, cond, List, [], ◌∷◌, length}
use Rattle.std.proofs.Common.{get_or, drop, drop-cons, min, refl, ap, sym, ◌∙◌, add-one, arith}
use Rattle.std.proofs.lemmas.List.{drop_all}
use Rattle.std.specs.Char.{digit_value}
use Rattle.std.specs.List.{list_any, position_or_len}
use Rattle.std.specs.Str.Parse.{digits_value_after}

-- numbers that are cut alike go on alike
pub cut_alike : (ds : List ℕ) (m n : ℕ) → min m 101 ≡ min n 101
    → min (digits_value_after 10 m ds) 101 ≡ min (digits_value_after 10 n ds) 101
cut_alike [] m n same = same
cut_alike (d ∷ ds) m n same = cut_alike ds (m * 10 + digit_value d) (n * 10 + digit_value d) (omega (arith, same))

pub cut_step : (text : List ℕ) (i b number next : ℕ) → b ≡ get_or text i 0 → i < length text → number ≤ 101
    → next ≡ min (number * 10 + digit_value b) 101
    → min (digits_value_after 10 number (drop i text)) 101 ≡ min (digits_value_after 10 0 text) 101
    → min (digits_value_after 10 next (drop (i + 1) text)) 101 ≡ min (digits_value_after 10 0 text) 101
cut_step text i b number next at inside within is so_far =
    let opened : drop i text ≡ b ∷ drop (i + 1) text =
    rw add-one (drop-cons text i 0 inside) ∙ ap (λ j. j ∷ drop (i + 1) text) (sym at) in
    cut_alike (drop (i + 1) text) next (number * 10 + digit_value b) (omega (arith, is))
    ∙ sym (ap (λ l. min (digits_value_after 10 number l) 101) opened) ∙ so_far

pub cut_done : (text : List ℕ) (i number : ℕ) → length text ≤ i → number ≤ 101
    → min (digits_value_after 10 number (drop i text)) 101 ≡ min (digits_value_after 10 0 text) 101
    → number ≡ min (digits_value_after 10 0 text) 101
cut_done text i number past within so_far =
    let cut : min (digits_value_after 10 number []) 101 ≡ min (digits_value_after 10 0 text) 101 =
    sym (ap (λ l. min (digits_value_after 10 number l) 101) (drop_all i text past)) ∙ so_far in
    omega (arith, cut)

-- where the first place that passes is after the list, none passes
pub none_before_end : {A : Type 0} (p : A → Bool) (xs : List A) → position_or_len p xs ≡ length xs
    → list_any p xs ≡ false
none_before_end p [] is = refl
none_before_end p (x ∷ xs) is = by (none_before_end p xs) (p x) is
  where
    by : (position_or_len p xs ≡ length xs → list_any p xs ≡ false) → (b : Bool)
        → cond (not b) (1 + position_or_len p xs) 0 ≡ length (x ∷ xs) → (b || list_any p xs) ≡ false
    by rest true clash = absurd (omega (arith, clash))
    by rest false here = rest (omega (arith, here))
