-- Whitespace and comments at the front of a text.
use Rattle.std.proofs.Common.{◌≡◌, ◌≢◌, ℕ, zero, suc, ◌+◌, ◌-◌, ◌<◌, ◌≤◌, Bool, true, false, cond, List, [], ◌∷◌, ◌++◌}
use Rattle.std.proofs.Common.{length, get_or, take, drop, refl, ap, sym, ◌∙◌, subst, arith, length-drop, one-add}
use Rattle.std.proofs.lemmas.Grind.{common_steps}
use Rattle.std.proofs.lemmas.List.{drop-drop, drop_all, take_all, take-append-drop}
use Rattle.std.proofs.Math.Seq.{take-add}
use Rattle.std.specs.List.{prefix_len, list_all}
use Rattle.std.proofs.lemmas.Bool.{and_from}
use Rattle.ofn_tree.specs.Lexemes.{is_whitespace, is_comment_byte}
use Rattle.ofn_tree.specs.TokenLaws.{EndsLine, IsGap, nothing, space, comment}
use Rattle.job_inputs.specs.Rest.{IsStray, Skips}

-- ---- the longest comment

passes : (p : ℕ → Bool) (bs : List ℕ) → list_all p (take (prefix_len p bs) bs) ≡ true
passes p [] = refl
passes p (b ∷ bs) =
    elim (p b) as (λ v. p b ≡ v → list_all p (take (cond v (1 + prefix_len p bs) 0) (b ∷ bs)) ≡ true) [
      | true ↦ λ is. rw one-add (and_from (p b) (list_all p (take (prefix_len p bs) bs)) is (passes p bs))
      | false ↦ λ is. refl
    ] refl

no_line_end : (c : ℕ) → is_comment_byte c ≡ false → is_whitespace c ≡ true
no_line_end c h = grind (arith, common_steps, h)

-- the byte after it ends its line
line_ends : (bs : List ℕ) → EndsLine true (drop (prefix_len is_comment_byte bs) bs)
line_ends [] = refl
line_ends (b ∷ bs) =
    elim (is_comment_byte b) as
    (λ v. is_comment_byte b ≡ v → EndsLine true (drop (cond v (1 + prefix_len is_comment_byte bs) 0) (b ∷ bs))) [
      | true ↦ λ is. rw one-add (line_ends bs)
      | false ↦ λ is. is
    ] refl

-- and stands before a stray byte
line_ends_before : (k : ℕ) (rest : List ℕ) → EndsLine true rest → IsStray rest k → EndsLine false (take k rest)
line_ends_before zero [] ends stray = absurd (omega (arith, stray.within))
line_ends_before (suc k) [] ends stray = absurd (omega (arith, stray.within))
line_ends_before zero (c ∷ cs) ends stray =
    let clash : true ≡ false = sym (no_line_end c ends) ∙ stray.no_space in absurd (cc clash)
line_ends_before (suc k) (c ∷ cs) ends stray = ends

-- ---- what is skipped

get_behind : (n k : ℕ) (xs : List ℕ) → get_or (drop n xs) k 0 ≡ get_or xs (n + k) 0
get_behind n k xs = grind (arith, common_steps)

-- a stray byte behind a front stands in the text, where what stands before it is a gap
stray_behind : (n k : ℕ) (text : List ℕ) → IsStray (drop n text) k → IsGap false (take (n + k) text)
    → IsStray text (n + k)
stray_behind n k text stray before = record {
  within = omega (arith, stray.within, length-drop n text);
  before = before;
  no_space = ap is_whitespace (sym (get_behind n k text)) ∙ stray.no_space;
  no_comment = λ h. stray.no_comment (get_behind n k text ∙ h);
}

space_cons : (b : ℕ) (bs : List ℕ) → is_whitespace b ≡ true → Skips (b ∷ bs) 1
space_cons b bs is = record {
  gap = λ g. space b bs is g;
  stray = λ k s. stray_behind 1 k (b ∷ bs) s (rw one-add (space b (take k bs) is s.before));
}

comment_cons : (bs : List ℕ) → Skips (35 ∷ bs) (1 + prefix_len is_comment_byte bs)
comment_cons bs =
    let n = prefix_len is_comment_byte bs in
    let behind : drop (1 + n) (35 ∷ bs) ≡ drop n bs = rw one-add refl in
    record {
      gap = λ g.
          let whole : IsGap true (35 ∷ (take n bs ++ drop n bs)) =
          comment (take n bs) (drop n bs) (passes is_comment_byte bs) (line_ends bs) (subst (IsGap true) behind g) in
          subst (λ (l : List ℕ). IsGap true (35 ∷ l)) (take-append-drop n bs) whole;
      stray = λ k s.
          let there : IsStray (drop n bs) k = subst (λ (l : List ℕ). IsStray l k) behind s in
          let whole : IsGap false (35 ∷ (take n bs ++ take k (drop n bs))) =
          comment (take n bs) (take k (drop n bs)) (passes is_comment_byte bs)
          (line_ends_before k (drop n bs) (line_ends bs) there) there.before in
          let size : (1 + n) + k ≡ suc (n + k) = omega arith in
          let is : 35 ∷ (take n bs ++ take k (drop n bs)) ≡ take ((1 + n) + k) (35 ∷ bs) =
          ap (λ (l : List ℕ). 35 ∷ l) (sym (take-add n k bs)) ∙ ap (λ m. take m (35 ∷ bs)) (sym size) in
          stray_behind (1 + n) k (35 ∷ bs) s (subst (IsGap false) is whole);
    }

-- ---- as the code asks

pub space_skips : (text : List ℕ) → 0 < length text → is_whitespace (get_or text 0 0) ≡ true → Skips text 1
space_skips [] some is = absurd (omega (arith, some))
space_skips (b ∷ bs) some is = space_cons b bs is

pub comment_skips : (text rest : List ℕ) (n : ℕ) → 0 < length text → get_or text 0 0 ≡ 35
    → rest ≡ take (length text - 1) (drop 1 text) → n ≡ prefix_len is_comment_byte rest → Skips text (1 + n)
comment_skips [] rest n some is behind len = absurd (omega (arith, some))
comment_skips (b ∷ bs) rest n some is behind len =
    let all : rest ≡ bs = behind ∙ take_all (length (b ∷ bs) - 1) bs (omega arith) in
    let size : 1 + n ≡ 1 + prefix_len is_comment_byte bs =
    ap (λ m. 1 + m) (len ∙ ap (prefix_len is_comment_byte) all) in
    subst (Skips (b ∷ bs)) (sym size)
    (subst (λ c. Skips (c ∷ bs) (1 + prefix_len is_comment_byte bs)) (sym is) (comment_cons bs))

pub stray_first : (text : List ℕ) → 0 < length text → is_whitespace (get_or text 0 0) ≡ false → get_or text 0 0 ≢ 35
    → IsStray text 0
stray_first text some no_space no_comment =
    record { within = some; before = nothing; no_space = no_space; no_comment = no_comment }

pub skips_none : (text : List ℕ) → Skips text 0
skips_none text = record { gap = λ g. g; stray = λ k s. let e : k ≡ 0 + k = omega arith in subst (IsStray text) e s }

pub skips_more : (text : List ℕ) (a b : ℕ) → Skips text a → Skips (drop a text) b → Skips text (a + b)
skips_more text a b first second = record {
  gap = λ g. first.gap (second.gap (subst (IsGap true) (sym (drop-drop b a text)) g));
  stray = λ k s.
      let there = second.stray k (subst (λ (l : List ℕ). IsStray l k) (sym (drop-drop b a text)) s) in
      let sum : a + (b + k) ≡ (a + b) + k = omega arith in
      subst (IsStray text) sum (first.stray (b + k) there);
}

-- where nothing is left, all is a gap
pub skips_all : (text : List ℕ) (count : ℕ) → Skips text count → length text ≤ count → IsGap true text
skips_all text count skips all =
    let none : drop count text ≡ [] = drop_all count text all in
    skips.gap (subst (IsGap true) (sym none) nothing)

-- a stray byte at the front of what is left
pub skips_to : (text : List ℕ) (count : ℕ) → Skips text count → IsStray (drop count text) 0 → IsStray text count
skips_to text count skips here =
    let e : count + 0 ≡ count = omega arith in
    subst (IsStray text) e (skips.stray 0 here)
