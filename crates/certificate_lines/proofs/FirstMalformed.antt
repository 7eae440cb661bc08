-- The first malformed line: of blank lines, of a body, and of a text with a first line of its own.
use Rattle.std.proofs.Common.{◌≡◌, ℕ, suc, ◌+◌, Bool, true, false, ◌&&◌, List, [], ◌∷◌, ◌++◌, take, Option, Some, None}
use Rattle.std.proofs.Common.{option_map, refl, ap, sym, ◌∙◌, arith}
use Rattle.std.specs.Prelude.{option_and_then, if◌then◌else◌}
use Rattle.std.specs.List.{list_all}
use Rattle.certificate_lines.specs.Lines.{is_blank}
use Rattle.certificate_lines.specs.Malformed.{first_unblank, BeginsText, StopsAfter, IsFirstMalformed, TellsMalformed}
use Rattle.certificate_lines.specs.Body.{after_line, malformed_after_line, is_end_line, blank_end, read_body}
use Rattle.certificate_lines.specs.Body.{malformed_in_body}
use Rattle.certificate_lines.proofs.Body.{body_end, body_line, end_alone}

no_text_found : {K : Type 0} (found : Option K) (k : K) → found ≡ None → found ≡ Some k → ⊥
no_text_found {K = K} found k none is =
    let clash : ◌≡◌ {A = Option K} None (Some k) = sym none ∙ is in absurd (cc clash)

told_none : (n m : ℕ) → ◌≡◌ {A = Option ℕ} (Some n) (Some m) → m ≡ n + 0
told_none n m is = let same : n ≡ m = cc is in omega (arith, same)

module _ {K : Type 0} (reading : List (List ℕ) → Option K) (some : BeginsText reading []) where
  -- a line is wanted
  pub stops_at_end : reading [] ≡ None → StopsAfter reading [] 0
  stops_at_end none =
      record { no_text = none; within = omega arith; begins = some; stops = λ less found. absurd (omega arith) }

  -- no text begins with the line
  pub stops_here : (l : List ℕ) (ls : List (List ℕ)) → ((rest : List (List ℕ)) → reading (l ∷ rest) ≡ None)
      → StopsAfter reading (l ∷ ls) 0
  stops_here l ls bad = record {
    no_text = bad ls;
    within = omega arith;
    begins = some;
    stops = λ less found. no_text_found _ found.1 (bad found.0) found.2;
  }

-- after the line another reading goes on
pub stops_later : {K : Type 0} (reading later : List (List ℕ) → Option K) (l : List ℕ) (ls : List (List ℕ)) (k : ℕ)
    → ((rest : List (List ℕ)) → reading (l ∷ rest) ≡ later rest) → StopsAfter later ls k
    → StopsAfter reading (l ∷ ls) (suc k)
stops_later reading later l ls k good first = record {
  no_text = good ls ∙ first.no_text;
  within = omega (arith, first.within);
  begins = (first.begins.0, first.begins.1, good (take k ls ++ first.begins.0) ∙ first.begins.2);
  stops =
      λ less found. first.stops (omega (arith, less))
      (found.0, found.1, sym (good (take (suc k) ls ++ found.0)) ∙ found.2);
}

one_later : {K : Type 0} (reading later : List (List ℕ) → Option K) (n m : ℕ) (l : List ℕ) (ls : List (List ℕ))
    → ((rest : List (List ℕ)) → reading (l ∷ rest) ≡ later rest) → IsFirstMalformed (n + 1) later ls m
    → IsFirstMalformed n reading (l ∷ ls) m
one_later reading later n m l ls good first =
    (suc first.0, omega (arith, first.1), stops_later reading later l ls first.0 good first.2)

-- ---- blank lines

blank_here : (l : List ℕ) (ls : List (List ℕ)) (b : Bool) → is_blank l ≡ b
    → list_all is_blank (l ∷ ls) ≡ (b && list_all is_blank ls)
blank_here l ls b is = ap (λ (v : Bool). v && list_all is_blank ls) is

unblank_here : (n : ℕ) (l : List ℕ) (ls : List (List ℕ)) (b : Bool) → is_blank l ≡ b
    → first_unblank n (l ∷ ls) ≡ (if b then first_unblank (n + 1) ls else Some n)
unblank_here n l ls b is = ap (λ (v : Bool). if v then first_unblank (n + 1) ls else Some n) is

blank_stops : {K : Type 0} (k : K) (n m : ℕ) (ls : List (List ℕ)) → first_unblank n ls ≡ Some m
    → IsFirstMalformed n (blank_end k) ls m
blank_stops k n m [] is = let clash : ◌≡◌ {A = Option ℕ} None (Some m) = is in absurd (cc clash)
blank_stops {K = K} k n m (l ∷ ls) is = by (blank_stops k (n + 1) m ls) (is_blank l) refl
  where
    ends_as : (rest : List (List ℕ)) (b : Bool) → is_blank l ≡ b
        → blank_end k (l ∷ rest) ≡ (if b && list_all is_blank rest then Some k else None)
    ends_as rest b here = ap (λ (v : Bool). if v then Some k else None) (blank_here l rest b here)

    by : (first_unblank (n + 1) ls ≡ Some m → IsFirstMalformed (n + 1) (blank_end k) ls m) → (b : Bool) → is_blank l ≡ b
        → IsFirstMalformed n (blank_end k) (l ∷ ls) m
    by later true blank =
        one_later (blank_end k) (blank_end k) n m l ls (λ rest. ends_as rest true blank)
        (later (sym (unblank_here n l ls true blank) ∙ is))
    by later false word = (
      0,
      told_none n m (sym (unblank_here n l ls false word) ∙ is),
      stops_here (blank_end k) ([], k, refl) l ls (λ rest. ends_as rest false word),
    )

blank_all : (n : ℕ) (ls : List (List ℕ)) → first_unblank n ls ≡ None → list_all is_blank ls ≡ true
blank_all n [] is = refl
blank_all n (l ∷ ls) is = by (blank_all (n + 1) ls) (is_blank l) refl
  where
    by : (first_unblank (n + 1) ls ≡ None → list_all is_blank ls ≡ true) → (b : Bool) → is_blank l ≡ b
        → list_all is_blank (l ∷ ls) ≡ true
    by later true blank = blank_here l ls true blank ∙ later (sym (unblank_here n l ls true blank) ∙ is)
    by later false word =
        let clash : ◌≡◌ {A = Option ℕ} (Some n) None = sym (unblank_here n l ls false word) ∙ is in absurd (cc clash)

-- ---- a body

module _ {B K : Type 0} (read : B → List ℕ → Option B) (whole : B → K) where
  told_end : (n : ℕ) (b : B) (l : List ℕ) (ls : List (List ℕ)) → is_end_line l ≡ true
      → malformed_in_body read n b (l ∷ ls) ≡ first_unblank (n + 1) ls
  told_end n b l ls is =
      ap (λ (v : Bool). elim v [
        | true ↦ first_unblank (n + 1) ls
        | false ↦ elim (read b l) [ None ↦ Some n | Some next ↦ malformed_in_body read (n + 1) next ls ]
      ])
      is

  told_line : (n : ℕ) (b : B) (l : List ℕ) (ls : List (List ℕ)) (r : Option B) → is_end_line l ≡ false → read b l ≡ r
      → malformed_in_body read n b (l ∷ ls)
      ≡ elim r [ None ↦ Some n | Some next ↦ malformed_in_body read (n + 1) next ls ]
  told_line n b l ls r is line =
      ap (λ (v : Bool). elim v [
        | true ↦ first_unblank (n + 1) ls
        | false ↦ elim (read b l) [ None ↦ Some n | Some next ↦ malformed_in_body read (n + 1) next ls ]
      ])
      is
      ∙ ap (λ (s : Option B). elim s [ None ↦ Some n | Some next ↦ malformed_in_body read (n + 1) next ls ]) line

  body_stops : (n m : ℕ) (b : B) (ls : List (List ℕ)) → malformed_in_body read n b ls ≡ Some m
      → IsFirstMalformed n (read_body read whole b) ls m
  body_stops n m b [] is = (0, told_none n m is, stops_at_end (read_body read whole b) (end_alone read whole b) refl)
  body_stops n m b (l ∷ ls) is = by_end (λ next. body_stops (n + 1) m next ls) (is_end_line l) refl
    where
      by_end : ((next : B) → malformed_in_body read (n + 1) next ls ≡ Some m
          → IsFirstMalformed (n + 1) (read_body read whole next) ls m)
          → (e : Bool) → is_end_line l ≡ e → IsFirstMalformed n (read_body read whole b) (l ∷ ls) m
      by_end later true ends =
          one_later (read_body read whole b) (blank_end (whole b)) n m l ls (λ rest. body_end read whole b l rest ends)
          (blank_stops (whole b) (n + 1) m ls (sym (told_end n b l ls ends) ∙ is))
      by_end later false goes = by_line (read b l) refl
        where
          by_line : (r : Option B) → read b l ≡ r → IsFirstMalformed n (read_body read whole b) (l ∷ ls) m
          by_line None bad = (
            0,
            told_none n m (sym (told_line n b l ls None goes bad) ∙ is),
            stops_here (read_body read whole b) (end_alone read whole b) l ls
                (λ rest. body_line read whole b l rest None goes bad),
          )
          by_line (Some next) good =
              one_later (read_body read whole b) (read_body read whole next) n m l ls
              (λ rest. body_line read whole b l rest (Some next) goes good)
              (later next (sym (told_line n b l ls (Some next) goes good) ∙ is))

  body_is_text : (n : ℕ) (b : B) (ls : List (List ℕ)) → malformed_in_body read n b ls ≡ None
      → (k : K) × (read_body read whole b ls ≡ Some k)
  body_is_text n b [] is = let clash : ◌≡◌ {A = Option ℕ} (Some n) None = is in absurd (cc clash)
  body_is_text n b (l ∷ ls) is = by_end (λ next. body_is_text (n + 1) next ls) (is_end_line l) refl
    where
      by_end : ((next : B) → malformed_in_body read (n + 1) next ls ≡ None
          → (k : K) × (read_body read whole next ls ≡ Some k))
          → (e : Bool) → is_end_line l ≡ e → (k : K) × (read_body read whole b (l ∷ ls) ≡ Some k)
      by_end later true ends = (
        whole b,
        body_end read whole b l ls ends
            ∙ ap (λ (v : Bool). if v then Some (whole b) else None)
            (blank_all (n + 1) ls (sym (told_end n b l ls ends) ∙ is)),
      )
      by_end later false goes = by_line (read b l) refl
        where
          by_line : (r : Option B) → read b l ≡ r → (k : K) × (read_body read whole b (l ∷ ls) ≡ Some k)
          by_line None bad =
              let clash : ◌≡◌ {A = Option ℕ} (Some n) None = sym (told_line n b l ls None goes bad) ∙ is in
              absurd (cc clash)
          by_line (Some next) good =
              let more = later next (sym (told_line n b l ls (Some next) goes good) ∙ is) in
              (more.0, body_line read whole b l ls (Some next) goes good ∙ more.1)

  pub body_tells : (n : ℕ) (b : B) → TellsMalformed n (read_body read whole b) (malformed_in_body read n b)
  body_tells n b = record { is_first = λ ls m is. body_stops n m b ls is; unless = λ ls is. body_is_text n b ls is }

-- ---- a first line, and what follows it

module _ {A K : Type 0} (first : List ℕ → Option A) (rest : A → List (List ℕ) → Option K)
    (malformed : A → List (List ℕ) → Option ℕ) (n : ℕ) (some : BeginsText (after_line first rest) [])
    (tells : (a : A) → TellsMalformed (n + 1) (rest a) (malformed a)) where
  reads_as : (l : List ℕ) (ls : List (List ℕ)) (r : Option A) → first l ≡ r
      → after_line first rest (l ∷ ls) ≡ option_and_then (λ a. rest a ls) r
  reads_as l ls r is = ap (option_and_then (λ a. rest a ls)) is

  told_as : (l : List ℕ) (ls : List (List ℕ)) (r : Option A) → first l ≡ r
      → malformed_after_line n first malformed (l ∷ ls) ≡ elim r [ None ↦ Some n | Some a ↦ malformed a ls ]
  told_as l ls r is = ap (λ (s : Option A). elim s [ None ↦ Some n | Some a ↦ malformed a ls ]) is

  line_stops : (ls : List (List ℕ)) (m : ℕ) → malformed_after_line n first malformed ls ≡ Some m
      → IsFirstMalformed n (after_line first rest) ls m
  line_stops [] m is = (0, told_none n m is, stops_at_end (after_line first rest) some refl)
  line_stops (l ∷ ls) m is = by (first l) refl
    where
      by : (r : Option A) → first l ≡ r → IsFirstMalformed n (after_line first rest) (l ∷ ls) m
      by None bad = (
        0,
        told_none n m (sym (told_as l ls None bad) ∙ is),
        stops_here (after_line first rest) some l ls (λ more. reads_as l more None bad),
      )
      by (Some a) good =
          one_later (after_line first rest) (rest a) n m l ls (λ more. reads_as l more (Some a) good)
          ((tells a).is_first ls m (sym (told_as l ls (Some a) good) ∙ is))

  line_is_text : (ls : List (List ℕ)) → malformed_after_line n first malformed ls ≡ None
      → (k : K) × (after_line first rest ls ≡ Some k)
  line_is_text [] is = let clash : ◌≡◌ {A = Option ℕ} (Some n) None = is in absurd (cc clash)
  line_is_text (l ∷ ls) is = by (first l) refl
    where
      by : (r : Option A) → first l ≡ r → (k : K) × (after_line first rest (l ∷ ls) ≡ Some k)
      by None bad = let clash : ◌≡◌ {A = Option ℕ} (Some n) None = sym (told_as l ls None bad) ∙ is in absurd (cc clash)
      by (Some a) good =
          let more = (tells a).unless ls (sym (told_as l ls (Some a) good) ∙ is) in
          (more.0, reads_as l ls (Some a) good ∙ more.1)

  pub line_tells : TellsMalformed n (after_line first rest) (malformed_after_line n first malformed)
  line_tells = record { is_first = line_stops; unless = line_is_text }

-- a text after such a first line makes a text
pub begins_after : {A K : Type 0} (first : List ℕ → Option A) (rest : A → List (List ℕ) → Option K) (l : List ℕ) (a : A)
    → first l ≡ Some a → BeginsText (rest a) [] → BeginsText (after_line first rest) []
begins_after first rest l a is some = (l ∷ some.0, some.1, ap (option_and_then (λ b. rest b some.0)) is ∙ some.2)

-- ---- what is made of a text

module _ {J K : Type 0} (make : J → K) where
  made_none : (r : Option J) → r ≡ None → option_map make r ≡ None
  made_none r is = ap (option_map make) is

  unmade : (r : Option J) (k : K) → option_map make r ≡ Some k → (j : J) × (r ≡ Some j)
  unmade None k is = let clash : ◌≡◌ {A = Option K} None (Some k) = is in absurd (cc clash)
  unmade (Some j) k is = (j, refl)

  module _ (reading : List (List ℕ) → Option J) where
    pub begins_made : (front : List (List ℕ)) → BeginsText reading front
        → BeginsText (λ ls. option_map make (reading ls)) front
    begins_made front some = (some.0, make some.1, ap (option_map make) some.2)

    begins_unmade : (front : List (List ℕ)) → BeginsText (λ ls. option_map make (reading ls)) front
        → BeginsText reading front
    begins_unmade front some = let j = unmade (reading (front ++ some.0)) some.1 some.2 in (some.0, j.0, j.1)

    pub made_stops : (ls : List (List ℕ)) (k : ℕ) → StopsAfter reading ls k
        → StopsAfter (λ l. option_map make (reading l)) ls k
    made_stops ls k first = record {
      no_text = made_none (reading ls) first.no_text;
      within = first.within;
      begins = begins_made (take k ls) first.begins;
      stops = λ less found. first.stops less (begins_unmade (take (suc k) ls) found);
    }

    -- the same line is the first where the text stands for something made of what it stood for
    pub made_tells : (n : ℕ) (malformed : List (List ℕ) → Option ℕ) → TellsMalformed n reading malformed
        → TellsMalformed n (λ ls. option_map make (reading ls)) malformed
    made_tells n malformed tells = record {
      is_first = λ ls m is. let first = tells.is_first ls m is in (first.0, first.1, made_stops ls first.0 first.2);
      unless = λ ls is. let k = tells.unless ls is in (make k.0, ap (option_map make) k.1);
    }
