-- The body of a text, line by line.
use Rattle.std.proofs.Common.{◌≡◌, ℕ, ◌+◌, ◌≤◌, Bool, true, false, List, [], ◌∷◌, length, Option, Some, None, refl, ap}
use Rattle.std.proofs.Common.{sym, ◌∙◌, arith}
use Rattle.std.specs.Prelude.{codes, if◌then◌else◌}
use Rattle.std.specs.List.{list_all}
use Rattle.certificate_lines.specs.Lines.{is_blank}
use Rattle.certificate_lines.specs.Malformed.{BeginsText}
use Rattle.certificate_lines.specs.Body.{is_end_line, blank_end, read_body}

-- a reading of one line more
abbrev pub Steps : Type 0 → Type 0
Steps B = B → List ℕ → Option B

module _ {B K : Type 0} (read : Steps B) (whole : B → K) where
  pub body_end : (b : B) (l : List ℕ) (ls : List (List ℕ)) → is_end_line l ≡ true
      → read_body read whole b (l ∷ ls) ≡ blank_end (whole b) ls
  body_end b l ls is =
      ap (λ (v : Bool). elim v [
        | true ↦ blank_end (whole b) ls
        | false ↦ elim (read b l) [ None ↦ None | Some next ↦ read_body read whole next ls ]
      ])
      is

  pub body_line : (b : B) (l : List ℕ) (ls : List (List ℕ)) (r : Option B) → is_end_line l ≡ false → read b l ≡ r
      → read_body read whole b (l ∷ ls) ≡ elim r [ None ↦ None | Some next ↦ read_body read whole next ls ]
  body_line b l ls r is line =
      ap (λ (v : Bool). elim v [
        | true ↦ blank_end (whole b) ls
        | false ↦ elim (read b l) [ None ↦ None | Some next ↦ read_body read whole next ls ]
      ])
      is
      ∙ ap (λ (s : Option B). elim s [ None ↦ None | Some next ↦ read_body read whole next ls ]) line

  -- the line `end` alone is a body
  pub end_alone : (b : B) → BeginsText (read_body read whole b) []
  end_alone b = (codes "end" ∷ [], whole b, refl)

-- what was read last stands for the whole and keeps to something, after no more lines than there are
pub record EndsKept {B K : Type 0} (whole : B → K) (Keeps : ℕ → B → Type 0) (lines : ℕ) (k : K) : Type 0 where
  pub last : B
  pub number : ℕ
  pub within : number ≤ lines
  pub keeps : Keeps number last
  pub becomes : whole last ≡ k

-- what each line keeps that is read, the whole keeps
module _ {B K : Type 0} (read : Steps B) (whole : B → K) (Keeps : ℕ → B → Type 0)
    (step : (n : ℕ) (b next : B) (l : List ℕ) → Keeps n b → read b l ≡ Some next → Keeps (n + 1) next) where
  blank_is : (b : Bool) (j k : K) → (if b then Some j else None) ≡ Some k → j ≡ k
  blank_is true j k h = cc
  blank_is false j k h = let clash : ◌≡◌ {A = Option K} None (Some k) = h in absurd (cc clash)

  pub body_keeps : (n : ℕ) (b : B) (k : K) (ls : List (List ℕ)) → Keeps n b → read_body read whole b ls ≡ Some k
      → EndsKept whole Keeps (n + length ls) k
  body_keeps n b k [] keeps h = let clash : ◌≡◌ {A = Option K} None (Some k) = h in absurd (cc clash)
  body_keeps n b k (l ∷ ls) keeps h = by_end (λ next. body_keeps (n + 1) next k ls) (is_end_line l) refl
    where
      by_end : ((next : B) → Keeps (n + 1) next → read_body read whole next ls ≡ Some k
          → EndsKept whole Keeps (n + 1 + length ls) k)
          → (e : Bool) → is_end_line l ≡ e → EndsKept whole Keeps (n + length (l ∷ ls)) k
      by_end later true ends = record {
        last = b;
        number = n;
        within = omega arith;
        keeps = keeps;
        becomes = blank_is (list_all is_blank ls) (whole b) k (sym (body_end read whole b l ls ends) ∙ h);
      }
      by_end later false goes = by_line (read b l) refl
        where
          by_line : (r : Option B) → read b l ≡ r → EndsKept whole Keeps (n + length (l ∷ ls)) k
          by_line None bad =
              let clash : ◌≡◌ {A = Option K} None (Some k) = sym (body_line read whole b l ls None goes bad) ∙ h in
              absurd (cc clash)
          by_line (Some next) good =
              let more =
              later next (step n b next l keeps good) (sym (body_line read whole b l ls (Some next) goes good) ∙ h) in
              record {
                last = more.last;
                number = more.number;
                within = omega (arith, more.within);
                keeps = more.keeps;
                becomes = more.becomes;
              }
