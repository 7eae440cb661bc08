-- Blank lines in front of a text do not count.
use Rattle.std.proofs.Common.{◌≡◌, ℕ, zero, suc, ◌+◌, ◌-◌, Bool, true, false, cond, ◌&&◌, List, [], ◌∷◌, ◌++◌, length}
use Rattle.std.proofs.Common.{map, take, drop, refl, ap, ◌∙◌, arith, nat_eq}
use Rattle.std.specs.Prelude.{slice_index}
use Rattle.std.specs.List.{list_all, prefix_len, slice_split, onto_first}
use Rattle.std.specs.Str.Lines.{strip_carriage_return}
use Rattle.std.proofs.lemmas.Bool.{and_parts}
use Rattle.certificate_lines.specs.Lines.{lines, is_space, is_blank}
use Rattle.audit_check.proofs.Joined.{lines_joined}
use Rattle.decision_jobs.specs.Certificates.{certificate_lines}

-- ---- whitespace has blank lines alone

all_of_front : (p : ℕ → Bool) (n : ℕ) (xs : List ℕ) → list_all p xs ≡ true → list_all p (take n xs) ≡ true
all_of_front p zero xs all = refl
all_of_front p (suc n) [] all = refl
all_of_front p (suc n) (x ∷ xs) all =
    let parts = and_parts (p x) (list_all p xs) all in λ i. parts.0 i && all_of_front p n xs parts.1 i

strip_blank : (line : List ℕ) → is_blank line ≡ true → is_blank (strip_carriage_return line) ≡ true
strip_blank line blank = by (nat_eq (slice_index line (length line - 1)) 13)
  where
    by : (v : Bool) → is_blank (cond v (take (length line - 1) line) line) ≡ true
    by true = all_of_front is_space (length line - 1) line blank
    by false = blank

onto_blank : (b : ℕ) (ls : List (List ℕ)) → is_space b ≡ true → list_all is_blank ls ≡ true
    → list_all is_blank (onto_first b ls) ≡ true
onto_blank b [] space all = λ i. (space i && true) && true
onto_blank b (l ∷ ls) space all =
    let parts = and_parts (is_blank l) (list_all is_blank ls) all in λ i. (space i && parts.0 i) && parts.1 i

split_blank : (p : ℕ → Bool) (text : List ℕ) → is_blank text ≡ true → list_all is_blank (slice_split p text) ≡ true
split_blank p [] blank = refl
split_blank p (b ∷ text) blank =
    let parts = and_parts (is_space b) (is_blank text) blank in
    by (p b) (split_blank p text parts.1) (onto_blank b (slice_split p text) parts.0 (split_blank p text parts.1))
  where
    by : (v : Bool) → list_all is_blank (slice_split p text) ≡ true
        → list_all is_blank (onto_first b (slice_split p text)) ≡ true
        → list_all is_blank (cond v ([] ∷ slice_split p text) (onto_first b (slice_split p text))) ≡ true
    by true all longer = all
    by false all longer = longer

strip_all : (ls : List (List ℕ)) → list_all is_blank ls ≡ true → list_all is_blank (map strip_carriage_return ls) ≡ true
strip_all [] all = refl
strip_all (l ∷ ls) all =
    let parts = and_parts (is_blank l) (list_all is_blank ls) all in
    λ i. strip_blank l parts.0 i && strip_all ls parts.1 i

lines_blank : (text : List ℕ) → is_blank text ≡ true → list_all is_blank (lines text) ≡ true
lines_blank text blank = strip_all (slice_split (λ b. nat_eq b 10) text) (split_blank (λ b. nat_eq b 10) text blank)

-- ---- what stands behind them

skip_all : {X : Type 0} (p : X → Bool) (xs ys : List X) → list_all p xs ≡ true
    → drop (prefix_len p (xs ++ ys)) (xs ++ ys) ≡ drop (prefix_len p ys) ys
skip_all p [] ys all = refl
skip_all p (x ∷ xs) ys all =
    let parts = and_parts (p x) (list_all p xs) all in
    let count : 1 + prefix_len p (xs ++ ys) ≡ suc (prefix_len p (xs ++ ys)) = omega arith in
    ap (λ v. drop (cond v (1 + prefix_len p (xs ++ ys)) 0) (x ∷ (xs ++ ys))) parts.0
    ∙ ap (λ n. drop n (x ∷ (xs ++ ys))) count ∙ skip_all p xs ys parts.1

pub blank_skipped : (before t : List ℕ) → is_blank before ≡ true
    → certificate_lines (before ++ 10 ∷ t) ≡ certificate_lines t
blank_skipped before t blank =
    ap (λ (ls : List (List ℕ)). drop (prefix_len is_blank ls) ls) (lines_joined before t)
    ∙ skip_all is_blank (lines before) (lines t) (lines_blank before blank)
