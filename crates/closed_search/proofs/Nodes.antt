-- Lines that close name a node where one must stand.
use Rattle.std.proofs.Common.{◌≡◌, ℕ, ◌+◌, eqb, Bool, true, false, cond, List, [], ◌∷◌, ◌++◌, map, Option, Some, None}
use Rattle.std.proofs.Common.{refl, ap, sym, ◌∙◌, arith}
use Rattle.std.specs.List.{list_all}
use Rattle.std.specs.Option.{option_and_then, option_map}
use Rattle.std.proofs.lemmas.Bool.{ne_eqb, and_from, and_parts}
use Rattle.shq_terms.specs.Concept.{Concept, top, bottom, name, complement, intersection, union, some_of, all_of}
use Rattle.shq_terms.specs.Concept.{at_least, at_most, exactly}
use Rattle.calculus_specs.specs.Rules.{Question}
use Rattle.calculus_specs.specs.Line.{Line}
use Rattle.calculus_specs.specs.Line.Line.{start_line, and_line, or_line, all_line, carry_line, row_line, range_line}
use Rattle.calculus_specs.specs.Line.Line.{some_line, least_line, choose_line, pair_line, bottom_line, clash_line}
use Rattle.calculus_specs.specs.Line.Line.{most_line, fact_line, differ_line}
use Rattle.search_trace.specs.ReadBack.{has_nodes}
use Rattle.search_trace.specs.Premises.{most_rule, rule_of}
use Rattle.search_trace.specs.Leaves.{leaves}
use Rattle.search_trace.specs.Noted.{Noted, NotedLine, noted_by, noted_children}
use Rattle.search_trace.specs.Renumbered.{renumbered}

when_none : {A : Type 0} → (b : Bool) (o : Option A) → b ≡ false → cond b o None ≡ None
when_none b o h = ap (λ (c : Bool). cond c o None) h

most_none : (x : ℕ) (c : Option Concept) → most_rule x [] c ≡ None
most_none x None = refl
most_none x (Some top) = refl
most_none x (Some bottom) = refl
most_none x (Some (name a)) = refl
most_none x (Some (complement c)) = refl
most_none x (Some (intersection cs)) = refl
most_none x (Some (union cs)) = refl
most_none x (Some (some_of r c)) = refl
most_none x (Some (all_of r c)) = refl
most_none x (Some (at_least n r c)) = refl
most_none x (Some (at_most n r c)) = when_none (eqb 0 (n + 1)) _ (ne_eqb 0 (n + 1) (λ e. omega arith))
most_none x (Some (exactly n r c)) = refl

module _ (q : Question) (concept : ℕ → Option Concept) where
  line_has_nodes : (l : Line) → ¬ (rule_of q concept l ≡ None) → has_nodes l ≡ true
  line_has_nodes start_line h = refl
  line_has_nodes (and_line x c) h = refl
  line_has_nodes (or_line x c) h = refl
  line_has_nodes (all_line x y c) h = refl
  line_has_nodes (carry_line x y r c) h = refl
  line_has_nodes (row_line x a p is) h = refl
  line_has_nodes (range_line x y a) h = refl
  line_has_nodes (some_line x y c) h = refl
  line_has_nodes (least_line x y c) h = refl
  line_has_nodes (choose_line y c) h = refl
  line_has_nodes (pair_line y z) h = refl
  line_has_nodes (bottom_line x) h = refl
  line_has_nodes (clash_line x c) h = refl
  line_has_nodes (most_line x c []) h = absurd (h (most_none x (concept c)))
  line_has_nodes (most_line x c (y ∷ ys)) h = refl
  line_has_nodes (fact_line a p) h = refl
  line_has_nodes (differ_line y z) h = refl

  abbrev step : Noted → NotedLine → Option (List Noted)
  step = noted_children q concept

  has_rule : (k : Noted) (l : NotedLine) (kids : List Noted) → step k l ≡ Some kids
      → ¬ (rule_of q concept l.line ≡ None)
  has_rule k l kids h none = let e : None ≡ Some kids = sym (ap (noted_by q concept k l) none) ∙ h in cc

  abbrev lines_in : List NotedLine → List Line
  lines_in ls = map (λ l. l.line) ls

  after : (l : NotedLine) (ls : List NotedLine) (k : Noted) (ks outs : List Noted) (made : Option (List Noted))
      → step k l ≡ made
      → ((now : List Noted) → leaves step now ls ≡ Some outs → list_all has_nodes (lines_in ls) ≡ true)
      → option_and_then (λ (left : List Noted). leaves step left ls) (option_map (λ (new : List Noted). new ++ ks) made)
      ≡ Some outs
      → list_all has_nodes (lines_in (l ∷ ls)) ≡ true
  after l ls k ks outs None e rest h = cc
  after l ls k ks outs (Some kids) e rest h =
      and_from (has_nodes l.line) (list_all has_nodes (lines_in ls)) (line_has_nodes l.line (has_rule k l kids e))
      (rest (kids ++ ks) h)

  pub closing_has_nodes : (ls : List NotedLine) (ks outs : List Noted) → leaves step ks ls ≡ Some outs
      → list_all has_nodes (lines_in ls) ≡ true
  closing_has_nodes [] ks outs h = refl
  closing_has_nodes (l ∷ ls) [] outs h = cc
  closing_has_nodes (l ∷ ls) (k ∷ ks) outs h =
      after l ls k ks outs (step k l) refl (λ now. closing_has_nodes ls now outs) h

same_nodes : (f : ℕ → ℕ) (l : Line) → has_nodes (renumbered f l) ≡ has_nodes l
same_nodes f start_line = refl
same_nodes f (and_line x c) = refl
same_nodes f (or_line x c) = refl
same_nodes f (all_line x y c) = refl
same_nodes f (carry_line x y r c) = refl
same_nodes f (row_line x a p is) = refl
same_nodes f (range_line x y a) = refl
same_nodes f (some_line x y c) = refl
same_nodes f (least_line x y c) = refl
same_nodes f (choose_line y c) = refl
same_nodes f (pair_line y z) = refl
same_nodes f (bottom_line x) = refl
same_nodes f (clash_line x c) = refl
same_nodes f (most_line x c []) = refl
same_nodes f (most_line x c (y ∷ ys)) = refl
same_nodes f (fact_line a p) = refl
same_nodes f (differ_line y z) = refl

pub have_nodes : (f : ℕ → ℕ) (ls : List Line) → list_all has_nodes ls ≡ true
    → list_all has_nodes (map (renumbered f) ls) ≡ true
have_nodes f [] h = refl
have_nodes f (l ∷ ls) h =
    let both = and_parts (has_nodes l) (list_all has_nodes ls) h in
    and_from (has_nodes (renumbered f l)) (list_all has_nodes (map (renumbered f) ls)) (same_nodes f l ∙ both.0)
    (have_nodes f ls both.1)
