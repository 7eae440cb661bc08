-- Where a text may be cut: after what stands at its front.
use Rattle.std.proofs.Common.{◌≡◌, ℕ, ◌+◌, ◌-◌, ◌<◌, ◌≤◌, Bool, true, false, List, [], ◌∷◌, ◌++◌, length, get_or, take}
use Rattle.std.proofs.Common.{drop, refl, sym, ap, ◌∙◌, subst, arith, length-drop, nat_eq}
use Rattle.std.proofs.lemmas.Grind.{common_steps}
use Rattle.std.proofs.lemmas.List.{take_all, get_or-drop, take-append-drop}
use Rattle.std.proofs.lemmas.Slice.Eq.{bytes_eq-Decides}
use Rattle.std.proofs.lemmas.List.Sums.{prefix_len-le-length, prefix_len_stops, prefix_len_passes}
use Rattle.std.proofs.lemmas.Str.{IsCharBoundary-after_ascii, IsCharBoundary-past_char}
use Rattle.std.specs.Str.{IsUtf8, IsCharBoundary}
use lib.Utf8.{encode}
use Rattle.std.specs.List.{prefix_len, starts_with}
use Rattle.ofn_tree.specs.Lexemes.{is_whitespace, is_name_byte, is_comment_byte, is_tag_byte, byte_order_mark}

-- `&text[1..]`
pub behind_first : (text : List ℕ) → take (length text - 1) (drop 1 text) ≡ drop 1 text
behind_first text = take_all (length text - 1) (drop 1 text) (omega (arith, length-drop 1 text))

pub byte_behind : (text : List ℕ) (n : ℕ) → get_or (drop 1 text) n 0 ≡ get_or text (1 + n) 0
byte_behind text n = get_or-drop 1 text n 0

pub some_byte : (bs : List ℕ) → get_or bs 0 0 ≡ 94 → 0 < length bs
some_byte [] h = cc
some_byte (b ∷ bs) h = omega arith

-- after bytes that pass a test, where all bytes that fail it are ASCII
pub at_stop : (p : ℕ → Bool) → ((b : ℕ) → p b ≡ false → b < 128) → (text rest : List ℕ) (n : ℕ) → 0 < length text
    → rest ≡ take (length text - 1) (drop 1 text) → n ≡ prefix_len p rest → IsCharBoundary text (1 + n)
at_stop p low text rest n some behind is =
    let here : n ≡ prefix_len p (drop 1 text) = is ∙ ap (prefix_len p) (behind ∙ behind_first text) in (
      omega (arith, prefix_len-le-length p (drop 1 text), length-drop 1 text),
      λ inside high.
          let there : prefix_len p (drop 1 text) < length (drop 1 text) = omega (arith, length-drop 1 text) in
          let byte : get_or (drop 1 text) (prefix_len p (drop 1 text)) 0 ≡ get_or text (1 + n) 0 =
          byte_behind text (prefix_len p (drop 1 text)) ∙ ap (λ m. get_or text (1 + m) 0) (sym here) in
          absurd (omega (
            arith,
            low (get_or (drop 1 text) (prefix_len p (drop 1 text)) 0) (prefix_len_stops p (drop 1 text) 0 there),
          )),
    )

-- after an ASCII byte that n bytes and the first stand before
pub behind_close : (text rest : List ℕ) (n b : ℕ) → IsUtf8 text → 0 < length text
    → rest ≡ take (length text - 1) (drop 1 text) → n < length rest → get_or rest n 0 ≡ b → b < 128
    → IsCharBoundary text (n + 2)
behind_close text rest n b utf8 some behind inside is low =
    let whole : rest ≡ drop 1 text = behind ∙ behind_first text in
    let within : 1 + n < length text = omega (arith, ap length whole, length-drop 1 text) in
    let byte : get_or text (1 + n) 0 ≡ b =
    sym (byte_behind text n) ∙ ap (λ (l : List ℕ). get_or l n 0) (sym whole) ∙ is in
    let there : (1 + n) + 1 ≡ n + 2 = omega arith in
    subst (IsCharBoundary text) there (IsCharBoundary-after_ascii text (1 + n) utf8 within (omega arith))

tag_byte-low : (b : ℕ) → is_tag_byte b ≡ true → b < 128
tag_byte-low b h = grind (arith, common_steps, h)

-- after bytes of a tag
pub behind_tag : (text rest : List ℕ) (n : ℕ) → IsUtf8 text → 0 < length text
    → rest ≡ take (length text - 1) (drop 1 text) → n ≡ prefix_len is_tag_byte rest → 1 ≤ n
    → IsCharBoundary text (n + 1)
behind_tag text rest n utf8 some behind is more =
    let before : n - 1 < prefix_len is_tag_byte rest = omega arith in
    let inside : n - 1 < length rest = omega (arith, prefix_len-le-length is_tag_byte rest) in
    let there : (n - 1) + 2 ≡ n + 1 = omega arith in
    subst (IsCharBoundary text) there
    (behind_close text rest (n - 1) (get_or rest (n - 1) 0) utf8 some behind inside refl
    (tag_byte-low (get_or rest (n - 1) 0) (prefix_len_passes is_tag_byte rest (n - 1) 0 before)))

pub space-low : (b : ℕ) → is_whitespace b ≡ true → b < 128
space-low b h = grind (arith, common_steps, h)

pub name_stop-low : (b : ℕ) → is_name_byte b ≡ false → b < 128
name_stop-low b h = grind (arith, common_steps, h)

pub comment_stop-low : (b : ℕ) → is_comment_byte b ≡ false → b < 128
comment_stop-low b h = grind (arith, common_steps, h)

-- the byte order mark
pub begins-with_mark : (text : List ℕ) → starts_with nat_eq text byte_order_mark ≡ true → take 3 text ≡ byte_order_mark
begins-with_mark text begins =
    let same : byte_order_mark ≡ take 3 text =
    grind (arith, common_steps, bytes_eq-Decides byte_order_mark (take 3 text), begins) in
    sym same

pub behind_mark : (text : List ℕ) → IsUtf8 text → starts_with nat_eq text byte_order_mark ≡ true → IsCharBoundary text 3
unfolding encode
behind_mark text utf8 begins =
    let whole : text ≡ byte_order_mark ++ drop 3 text =
    sym (take-append-drop 3 text) ∙ ap (λ (l : List ℕ). l ++ drop 3 text) (begins-with_mark text begins) in
    IsCharBoundary-past_char text (drop 3 text) 0 0xFEFF (omega arith) utf8 whole
