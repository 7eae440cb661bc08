-- The lines of a text, and blank ones in front.
use Rattle.std.proofs.Common.{◌≡◌, ℕ, ◌+◌, ◌≤◌, Bool, List, [], ◌∷◌, cond, length, map, refl, ap, arith}
use Rattle.std.specs.Prelude.{nat_eq}
use Rattle.std.specs.List.{prefix_len, slice_split}
use Rattle.std.specs.Str.Lines.{strip_carriage_return}
use Rattle.std.proofs.lemmas.List.{length-map}
use Rattle.std.proofs.lemmas.List.Sums.{count_by-le-length}
use Rattle.std.proofs.lemmas.List.Splits.{length-slice_split}
use Rattle.certificate_lines.specs.Lines.{lines, is_blank}
pub use Rattle.certificate_lines.proofs.Borrowed.{lines_drop}
use denote.Ref.{Bor}

pub blank_front : (ls : List (Bor (List ℕ)))
    → prefix_len is_blank (map (λ l. l.now) ls) ≡ prefix_len (λ l. is_blank l.now) ls
blank_front [] = refl
blank_front (l ∷ ls) = ap (λ n. cond (is_blank l.now) (1 + n) 0) (blank_front ls)

-- each line but the first has a line feed before it
pub few_lines : (text : List ℕ) → length (lines text) ≤ length text + 1
few_lines text =
    let cut : ℕ → Bool = λ b. nat_eq b 10 in
    omega (
      arith,
      length-map (slice_split cut text) strip_carriage_return,
      length-slice_split cut text,
      count_by-le-length cut text,
    )

-- what reading behind blank lines cites
pub ruleset behind_blanks = (blank_front, lines_drop, few_lines)
