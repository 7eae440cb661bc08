-- No line feed is part of a comment, or of a token that is no string.
use Rattle.std.proofs.Common.{◌≡◌, ℕ, ◌+◌, ◌-◌, ◌<◌, Bool, true, false, cond, List, [], ◌∷◌, length, get_or, take, drop}
use Rattle.std.proofs.Common.{refl, sym, ap, ◌∙◌, arith, length-drop, one-add}
use Rattle.std.proofs.lemmas.Grind.{common_steps}
use Rattle.std.proofs.lemmas.List.Sums.{sum_by-cons, count_by_more_no}
use Rattle.std.specs.List.{prefix_len}
use Rattle.ofn_tree.specs.Lexemes.{is_line_feed, line_feeds, is_comment_byte, is_iri_byte, is_tag_byte, is_name_byte}
use Rattle.ofn_tree.proofs.Boundaries.{behind_first, byte_behind}

pub comment-plain : (b : ℕ) → is_comment_byte b ≡ true → is_line_feed b ≡ false
comment-plain b h = grind (arith, common_steps, h)

pub iri-plain : (b : ℕ) → is_iri_byte b ≡ true → is_line_feed b ≡ false
iri-plain b h = grind (arith, common_steps, h)

pub tag-plain : (b : ℕ) → is_tag_byte b ≡ true → is_line_feed b ≡ false
tag-plain b h = grind (arith, common_steps, h)

pub name-plain : (b : ℕ) → is_name_byte b ≡ true → is_line_feed b ≡ false
name-plain b h = grind (arith, common_steps, h)

printing-plain : (b : ℕ) → 32 < b → is_line_feed b ≡ false
printing-plain b h = grind (arith, common_steps, h)

plain-cons : (b : ℕ) (bs : List ℕ) → is_line_feed b ≡ false → line_feeds bs ≡ 0 → line_feeds (b ∷ bs) ≡ 0
plain-cons b bs plain none = sum_by-cons (λ x. cond (is_line_feed x) 1 0) b bs ∙ (λ k. cond (plain k) 1 0 + none k)

prefix-feeds : (p : ℕ → Bool) → ((b : ℕ) → p b ≡ true → is_line_feed b ≡ false) → (bs : List ℕ)
    → line_feeds (take (prefix_len p bs) bs) ≡ 0
prefix-feeds p plain [] = refl
prefix-feeds p plain (b ∷ bs) =
    elim (p b) as (λ v. p b ≡ v → line_feeds (take (cond v (1 + prefix_len p bs) 0) (b ∷ bs)) ≡ 0) [
      | true ↦ λ h. rw one-add (plain-cons b (take (prefix_len p bs) bs) (plain b h) (prefix-feeds p plain bs))
      | false ↦ λ h. refl
    ] refl

-- a first byte, and then those that pass a test
pub front-feeds : (p : ℕ → Bool) → ((b : ℕ) → p b ≡ true → is_line_feed b ≡ false) → (text rest : List ℕ) (n : ℕ)
    → 0 < length text → 32 < get_or text 0 0 → rest ≡ take (length text - 1) (drop 1 text) → n ≡ prefix_len p rest
    → line_feeds (take (1 + n) text) ≡ 0
front-feeds p plain [] rest n some printing behind is = absurd (omega (arith, some))
front-feeds p plain (b ∷ bs) rest n some printing behind is =
    let here : n ≡ prefix_len p bs = is ∙ ap (prefix_len p) (behind ∙ behind_first (b ∷ bs)) in
    rw one-add
    (plain-cons b (take n bs) (printing-plain b printing)
    (ap (λ m. line_feeds (take m bs)) here ∙ prefix-feeds p plain bs))

-- the same, and then a byte that is no line feed
pub closed-feeds : (p : ℕ → Bool) → ((b : ℕ) → p b ≡ true → is_line_feed b ≡ false) → (text rest : List ℕ) (n b : ℕ)
    → 0 < length text → 32 < get_or text 0 0 → rest ≡ take (length text - 1) (drop 1 text) → n ≡ prefix_len p rest
    → n < length rest → get_or rest n 0 ≡ b → 32 < b → line_feeds (take (n + 2) text) ≡ 0
closed-feeds p plain text rest n b some printing behind is inside last low =
    let whole : rest ≡ drop 1 text = behind ∙ behind_first text in
    let within : 1 + n < length text = omega (arith, ap length whole, length-drop 1 text) in
    let byte : get_or text (1 + n) 0 ≡ b =
    sym (byte_behind text n) ∙ ap (λ (l : List ℕ). get_or l n 0) (sym whole) ∙ last in
    let there : n + 2 ≡ (1 + n) + 1 = omega arith in
    ap (λ m. line_feeds (take m text)) there
    ∙ count_by_more_no is_line_feed text (1 + n) 0 within (ap is_line_feed byte ∙ printing-plain b low)
    ∙ front-feeds p plain text rest n some printing behind is
