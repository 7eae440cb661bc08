-- Lines that are some of others.
use Rattle.std.proofs.Common.{◌≡◌, ℕ, zero, suc, ◌+◌, ◌<◌, ◌≤◌, Bool, true, false, List, [], ◌∷◌, ◌++◌, map}
use Rattle.std.proofs.Common.{length, drop, get_or, Option, Some, None, Result, Ok, Err, refl, ap, ◌∙◌, sym, subst}
use Rattle.std.proofs.Common.{arith, append_assoc, append-nil}
use Rattle.std.proofs.Math.Numerals.{add-one}
use Rattle.std.specs.Prelude.{IfOk, IfSome}
use Rattle.std.specs.List.{list_all}
use Rattle.std.proofs.lemmas.Bool.{and_parts, and_from}
use Rattle.calculus_specs.specs.Shape.{Shape}
use Rattle.calculus_specs.specs.Line.{Line}
use Rattle.search_trace.specs.Line.{Line as Kept}
use Rattle.search_trace.specs.RuleLine.{line_of}
use Rattle.search_trace.specs.RefutationLists.{RefutationLists}
use Rattle.axiom_sets.specs.Sets.{Limited}
use Rattle.closed_search.specs.Finished.{IsNumbered}
use Rattle.closed_search.specs.Shorter.{staying, line_if, HasSomeOf, AreAmong}

-- ---- line by line

-- the next line, if it stays, and those behind it
next_stays : (stay : List Bool) (lines : List Kept) (place : ℕ) (line : Kept) → line ≡ get_or lines place line
    → place < length lines
    → staying (drop place stay) (map line_of (drop place lines))
    ≡ line_if (get_or stay place false) (line_of line)
    ++ staying (drop (suc place) stay) (map line_of (drop (suc place) lines))
next_stays stay [] place line is less = absurd (omega (arith, less))
next_stays [] (l ∷ lines) zero line is less = refl
next_stays (true ∷ stay) (l ∷ lines) zero line is less =
    ap (λ (k : Kept). line_of k ∷ staying stay (map line_of lines)) (sym is)
next_stays (false ∷ stay) (l ∷ lines) zero line is less = refl
next_stays [] (l ∷ lines) (suc place) line is less = refl
next_stays (b ∷ stay) (l ∷ lines) (suc place) line is less =
    next_stays stay lines place line is (omega (arith, less))

-- what was put, and what is left to be put
abbrev pub IsPuttingSome : List Bool → List Kept → ℕ → List Line → Type 0
IsPuttingSome stay lines place put =
    put ++ staying (drop place stay) (map line_of (drop place lines)) ≡ staying stay (map line_of lines)

put_next : (stay : List Bool) (lines : List Kept) (place : ℕ) (put more : List Line) (line : Kept) (stays : Bool)
    → line ≡ get_or lines place line → place < length lines → stays ≡ get_or stay place false
    → more ≡ put ++ line_if stays (line_of line) → IsPuttingSome stay lines place put
    → IsPuttingSome stay lines (suc place) more
put_next stay lines place put more line stays is less told is_more so_far =
    let later : List Line = staying (drop (suc place) stay) (map line_of (drop (suc place) lines)) in
    ap (λ (ls : List Line). ls ++ later) (is_more ∙ ap (λ (b : Bool). put ++ line_if b (line_of line)) told)
    ∙ append_assoc put (line_if (get_or stay place false) (line_of line)) later
    ∙ sym (ap (λ (ls : List Line). put ++ ls) (next_stays stay lines place line is less))
    ∙ so_far

pub one_more : (stay : List Bool) (lines : List Kept) (place : ℕ) (put more : List Line) (line : Kept) (stays : Bool)
    → line ≡ get_or lines place line → place < length lines → stays ≡ get_or stay place false
    → more ≡ put ++ line_if stays (line_of line) → IsPuttingSome stay lines place put
    → IsPuttingSome stay lines (place + 1) more
one_more stay lines place put more line stays is less told is_more so_far =
    subst (λ (k : ℕ). IsPuttingSome stay lines k more) (sym (add-one place))
    (put_next stay lines place put more line stays is less told is_more so_far)

no_lines : (stay : List Bool) → staying stay [] ≡ []
no_lines [] = refl
no_lines (b ∷ stay) = refl

dropped_all : (lines : List Kept) (place : ℕ) → length lines ≤ place → drop place lines ≡ []
dropped_all [] zero past = refl
dropped_all [] (suc place) past = refl
dropped_all (l ∷ lines) zero past = absurd (omega (arith, past))
dropped_all (l ∷ lines) (suc place) past = dropped_all lines place (omega (arith, past))

pub all_put : (stay : List Bool) (lines : List Kept) (place : ℕ) (put : List Line) → length lines ≤ place
    → IsPuttingSome stay lines place put → put ≡ staying stay (map line_of lines)
all_put stay lines place put past so_far =
    sym (ap (λ (ls : List Kept). put ++ staying (drop place stay) (map line_of ls)) (dropped_all lines place past)
    ∙ ap (λ (ls : List Line). put ++ ls) (no_lines (drop place stay)) ∙ append-nil put)
    ∙ so_far

-- ---- what stays

some_pass : (stay : List Bool) (lines : List Line) → AreAmong lines (staying stay lines)
some_pass [] lines test all = refl
some_pass (b ∷ stay) [] test all = refl
some_pass (true ∷ stay) (l ∷ lines) test all =
    let both = and_parts (test l) (list_all test lines) all in
    and_from (test l) (list_all test (staying stay lines)) both.0 (some_pass stay lines test both.1)
some_pass (false ∷ stay) (l ∷ lines) test all =
    some_pass stay lines test (and_parts (test l) (list_all test lines) all).1

pub are_among : (stay : List Bool) (lines some : List Line) → some ≡ staying stay lines → AreAmong lines some
are_among stay lines some is = subst (AreAmong lines) (sym is) (some_pass stay lines)

all_stay : (lines : List Line) → staying (map (λ (l : Line). true) lines) lines ≡ lines
all_stay [] = refl
all_stay (l ∷ lines) = ap (λ ls. l ∷ ls) (all_stay lines)

-- ---- refutations

-- by its own axioms
pub numbered_by_own : (table : List Shape) (axioms : Limited) (lines : List Line) (r : RefutationLists)
    → IsNumbered table axioms lines r → IsNumbered table r.axioms lines r
numbered_by_own table axioms lines r is = record {
  axioms_are = refl;
  number' = is.number';
  lines_are = is.lines_are;
  reads = is.reads;
  kinds = is.kinds;
}

pub has_some : (table : List Shape) (stay : List Bool) (lines some : List Line) (r : RefutationLists)
    → some ≡ staying stay lines → IsNumbered table r.axioms some r → HasSomeOf table lines r
has_some table stay lines some r is numbered = record {
  stay = stay;
  numbered = subst (λ (ls : List Line). IsNumbered table r.axioms ls r) is numbered;
}

pub has_all : (table : List Shape) (lines : List Line) (r : RefutationLists) → IsNumbered table r.axioms lines r
    → HasSomeOf table lines r
has_all table lines r numbered =
    has_some table (map (λ (l : Line). true) lines) lines lines r (sym (all_stay lines)) numbered

-- what is so of one refutation is so of what was found, if that is this one
pub passed_on : {E : Type 0} (P : RefutationLists → Type 0) (r : RefutationLists) → P r
    → (found : Result (Option RefutationLists) E) → IfOk found (λ f. IfSome f (λ x. x ≡ r))
    → IfOk found (λ f. IfSome f P)
passed_on P r h (Ok (Some x)) is = subst P (sym is) h
passed_on P r h (Ok None) is = tt
passed_on P r h (Err e) is = tt
