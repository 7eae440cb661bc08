-- The lines of a trace that has gone back are fit.
use Rattle.std.proofs.Common.{◌≡◌, ℕ, nat_lt, Bool, true, false, List, [], ◌∷◌, map, length, Option, Some, None, refl}
use Rattle.std.specs.List.{All, list_all}
use Rattle.std.proofs.lemmas.Bool.{and_parts, and_from}
use Rattle.std.proofs.lemmas.List.Elements.{All-nil, All-cons, All-head, All-tail}
use Rattle.lane_sieve.specs.Sets.{NumberSet}
use Rattle.shq_terms.specs.Concept.{Concept}
use Rattle.calculus_specs.specs.Rows.{part_at}
use Rattle.calculus_specs.specs.Tree.{tree_of}
use Rattle.calculus_specs.specs.Line.{Line}
use Rattle.calculus_specs.specs.Line.Line.{start_line, and_line, or_line, all_line, carry_line, row_line, range_line}
use Rattle.calculus_specs.specs.Line.Line.{some_line, least_line, choose_line, pair_line, bottom_line, clash_line}
use Rattle.calculus_specs.specs.Line.Line.{most_line, fact_line, differ_line}
use Rattle.search_trace.specs.RuleLine.{concept_numbers}
use Rattle.tableau_specs.specs.KeptKinds.{IsKept}
use Rattle.tableau_specs.specs.Steps.{SearchContext}
use Rattle.search_trace.specs.Noted.{NotedLine}
use Rattle.step_lines.specs.Serving.{HasPart}
use Rattle.search_trace.specs.Trace.{TraceLists, turned_back}
use Rattle.search_trace.proofs.KeptKinds.{kinds_kept}
use Rattle.search_state.specs.Progress.{IsFitLine}

-- ---- a line's part

abbrev is_there : {A : Type 0} → Option A → Bool
is_there None = false
is_there (Some q) = true

there : {A : Type 0} → (o : Option A) → is_there o ≡ true → (q : A) × (o ≡ Some q)
there None h = absurd (cc h)
there (Some q) h = (q, refl)

is_found : {A : Type 0} → (o : Option A) → (q : A) × (o ≡ Some q) → is_there o ≡ true
is_found None (q, h) = absurd (cc h)
is_found (Some q) h = refl

abbrev part_there : SearchContext → Line → Bool
part_there w (row_line x a p positions) = is_there (part_at w.theory a p)
part_there w (range_line x y a) = is_there (part_at w.theory a 1)
part_there w start_line = true
part_there w (and_line x c) = true
part_there w (or_line x c) = true
part_there w (all_line x y c) = true
part_there w (carry_line x y t c) = true
part_there w (some_line x y c) = true
part_there w (least_line x y c) = true
part_there w (choose_line y c) = true
part_there w (pair_line y z) = true
part_there w (bottom_line x) = true
part_there w (clash_line x c) = true
part_there w (most_line x c ys) = true
part_there w (fact_line a p) = is_there (w.fact_of a p)
part_there w (differ_line y z) = true

has_part : (w : SearchContext) (line : Line) → part_there w line ≡ true → HasPart w line
has_part w (row_line x a p positions) h = there (part_at w.theory a p) h
has_part w (range_line x y a) h = there (part_at w.theory a 1) h
has_part w start_line h = tt
has_part w (and_line x c) h = tt
has_part w (or_line x c) h = tt
has_part w (all_line x y c) h = tt
has_part w (carry_line x y role c) h = tt
has_part w (some_line x y c) h = tt
has_part w (least_line x y c) h = tt
has_part w (choose_line y c) h = tt
has_part w (pair_line y z) h = tt
has_part w (bottom_line x) h = tt
has_part w (clash_line x c) h = tt
has_part w (most_line x c ys) h = tt
has_part w (fact_line a p) h = there (w.fact_of a p) h
has_part w (differ_line y z) h = tt

shows_part : (w : SearchContext) (line : Line) → HasPart w line → part_there w line ≡ true
shows_part w (row_line x a p positions) h = is_found (part_at w.theory a p) h
shows_part w (range_line x y a) h = is_found (part_at w.theory a 1) h
shows_part w start_line h = refl
shows_part w (and_line x c) h = refl
shows_part w (or_line x c) h = refl
shows_part w (all_line x y c) h = refl
shows_part w (carry_line x y role c) h = refl
shows_part w (some_line x y c) h = refl
shows_part w (least_line x y c) h = refl
shows_part w (choose_line y c) h = refl
shows_part w (pair_line y z) h = refl
shows_part w (bottom_line x) h = refl
shows_part w (clash_line x c) h = refl
shows_part w (most_line x c ys) h = refl
shows_part w (fact_line a p) h = is_found (w.fact_of a p) h
shows_part w (differ_line y z) h = refl

-- ---- fit lines by tests

module _ (w : SearchContext) (sub not_sup : ℕ) where
  all_pass : (p : Line → Bool) → ((l : NotedLine) → IsFitLine w sub not_sup l → p l.line ≡ true) → (ls : List NotedLine)
      → All (IsFitLine w sub not_sup) ls → list_all p (map (λ l. l.line) ls) ≡ true
  all_pass p passes [] h = refl
  all_pass p passes (l ∷ ls) h =
      and_from (p l.line) (list_all p (map (λ m. m.line) ls)) (passes l (All-head (IsFitLine w sub not_sup) l ls h))
      (all_pass p passes ls (All-tail (IsFitLine w sub not_sup) l ls h))

  abbrev over : Line → Bool
  over line = list_all (λ c. nat_lt c (length w.table)) (concept_numbers line)

  abbrev of_kind : (Concept → Bool) → Line → Bool
  of_kind p line = list_all (λ c. p (tree_of w.table c)) (concept_numbers line)

  abbrev AreOfKinds : List NotedLine → Type 0
  AreOfKinds ls = (p : Concept → Bool) (e : ℕ → Bool) → IsKept w.theory w.fact_of (λ c. p c ≡ true) (λ r. e r ≡ true)
      → p (tree_of w.table sub) ≡ true → p (tree_of w.table not_sup) ≡ true
      → list_all (of_kind p) (map (λ l. l.line) ls) ≡ true

  all_fit : (ls : List NotedLine) → list_all over (map (λ l. l.line) ls) ≡ true → AreOfKinds ls
      → list_all (part_there w) (map (λ l. l.line) ls) ≡ true → All (IsFitLine w sub not_sup) ls
  all_fit [] a b c = All-nil (IsFitLine w sub not_sup)
  all_fit (l ∷ ls) a b c =
      let here = and_parts (over l.line) (list_all over (map (λ m. m.line) ls)) a in
      let cs = and_parts (part_there w l.line) (list_all (part_there w) (map (λ m. m.line) ls)) c in
      let bs : (p : Concept → Bool) (e : ℕ → Bool) → IsKept w.theory w.fact_of (λ c. p c ≡ true) (λ r. e r ≡ true)
      → p (tree_of w.table sub) ≡ true → p (tree_of w.table not_sup) ≡ true
      → (of_kind p l.line ≡ true) × (list_all (of_kind p) (map (λ m. m.line) ls) ≡ true) =
      (λ p e kept is_sub is_not_sup. and_parts (of_kind p l.line) (list_all (of_kind p) (map (λ m. m.line) ls))
      (b p e kept is_sub is_not_sup)) in
      All-cons (IsFitLine w sub not_sup) l ls
      (record {
        over = here.0;
        of_kind = λ p e kept is_sub is_not_sup. (bs p e kept is_sub is_not_sup).0;
        has_part = has_part w l.line cs.0;
      })
      (all_fit ls here.1 (λ p e kept is_sub is_not_sup. (bs p e kept is_sub is_not_sup).1) cs.1)

  -- going back leaves fit lines
  pub fit_back : (t : TraceLists) (u : NumberSet) → All (IsFitLine w sub not_sup) t.lines
      → All (IsFitLine w sub not_sup) (turned_back t u).lines
  fit_back t u fit =
      all_fit (turned_back t u).lines
      (kinds_kept over t u (all_pass over (λ l f. f.over) t.lines fit))
      (λ p e kept is_sub is_not_sup. kinds_kept (of_kind p) t u
      (all_pass (of_kind p) (λ l f. f.of_kind p e kept is_sub is_not_sup) t.lines fit))
      (kinds_kept (part_there w) t u (all_pass (part_there w) (λ l f. shows_part w l.line f.has_part) t.lines fit))
