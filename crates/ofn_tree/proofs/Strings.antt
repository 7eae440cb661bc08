-- Strings, byte after byte.
use Rattle.std.proofs.Common.{◌≡◌, ℕ, ◌+◌, ◌<◌, Bool, true, false, List, ◌∷◌, length, get_or, drop, refl, ap, ◌∙◌}
use Rattle.std.proofs.Common.{arith, drop-cons, add-one, cond, nat_eq, ◌||◌}
use Rattle.ofn_tree.specs.Lexemes.{Quoted, closes, breaks, runs_on, longer, quoted}

-- the same after n bytes more
abbrev pub added : ℕ → Quoted → Quoted
added n (closes m) = closes (n + m)
added n breaks = breaks
added n runs_on = runs_on

pub added-longer : (n : ℕ) (q : Quoted) → added n (longer q) ≡ added (n + 1) q
added-longer n (closes m) = let sum : n + (m + 1) ≡ (n + 1) + m = omega arith in ap closes sum
added-longer n breaks = refl
added-longer n runs_on = refl

opened : (text : List ℕ) (n : ℕ) → n < length text → drop n text ≡ get_or text n 0 ∷ drop (n + 1) text
opened text n inside = rw add-one (drop-cons text n 0 inside)

-- after a backslash
pub quoted-escaped : (text : List ℕ) (n : ℕ) (v : Bool) → n < length text
    → (nat_eq (get_or text n 0) 34 || nat_eq (get_or text n 0) 92) ≡ v
    → quoted true (drop n text) ≡ cond v (longer (quoted false (drop (n + 1) text))) breaks
quoted-escaped text n v inside is =
    ap (quoted true) (opened text n inside) ∙ ap (λ w. cond w (longer (quoted false (drop (n + 1) text))) breaks) is

-- elsewhere
pub quoted-plain : (text : List ℕ) (n : ℕ) (v : Bool) → n < length text → nat_eq (get_or text n 0) 34 ≡ v
    → quoted false (drop n text) ≡ cond v (closes 0) (longer (quoted (nat_eq (get_or text n 0) 92) (drop (n + 1) text)))
quoted-plain text n v inside is =
    ap (quoted false) (opened text n inside)
    ∙ ap (λ w. cond w (closes 0) (longer (quoted (nat_eq (get_or text n 0) 92) (drop (n + 1) text)))) is
