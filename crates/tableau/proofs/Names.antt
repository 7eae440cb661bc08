-- The names in lines that close everything are listed.
use Rattle.std.proofs.Common.{◌≡◌, ℕ, ltb, ◌&&◌, Bool, true, false, cond, List, [], ◌∷◌, ◌++◌, map, length, Option}
use Rattle.std.proofs.Common.{Some, None, refl, ap, sym, ◌∙◌, subst}
use Rattle.std.specs.List.{list_all, All}
use Rattle.std.specs.Option.{option_and_then, option_map}
use Rattle.std.proofs.lemmas.Bool.{and_parts, and_from}
use Rattle.std.proofs.lemmas.List.Elements.{All-head, All-tail}
use Rattle.shq_terms.specs.Concept.{Concept, top, bottom, name, complement, intersection, union, some_of, all_of}
use Rattle.shq_terms.specs.Concept.{at_least, at_most, exactly, parts_of}
use Rattle.shq_terms.specs.Listed.{Listed}
use Rattle.shq_terms.specs.Uses.{uses_listed}
use Rattle.shq_terms.specs.declared.axioms.Numbered.{Numbered}
use Rattle.calculus_specs.specs.Rows.{Theory}
use Rattle.calculus_specs.specs.Rules.{Question}
use Rattle.calculus_specs.specs.declared.facts.Fact.{Fact}
use Rattle.calculus_specs.specs.Tree.{tree_of}
use Rattle.search_laws.specs.Counted.{counted_roles, counted_by}
use Rattle.search_rules.specs.Limits.{IsOntologyInLimit}
use Rattle.calculus_specs.specs.Line.{Line}
use Rattle.calculus_specs.specs.Line.Line.{start_line, and_line, or_line, all_line, carry_line, row_line, range_line}
use Rattle.calculus_specs.specs.Line.Line.{some_line, least_line, choose_line, pair_line, bottom_line, clash_line}
use Rattle.calculus_specs.specs.Line.Line.{most_line, fact_line, differ_line}
use Rattle.closed_search.specs.Theory.{theory_of, fact_of_axiom}
use Rattle.closed_search.specs.RuleLine.{concept_numbers}
use Rattle.closed_search.specs.Written.{line_is_listed}
use Rattle.tableau_specs.specs.KeptKinds.{IsKept}
use Rattle.tableau_specs.specs.Lines.{concept_in}
use Rattle.tableau_specs.specs.Steps.{SearchContext}
use Rattle.search_laws.proofs.Allowed.{IsAllowed, allowed_normal, allowed_negated}
use Rattle.search_laws.proofs.AllowedParts.{allowed_kept}
use Rattle.closed_search.specs.Premises.{carry_rule, rule_of}
use Rattle.closed_search.specs.Leaves.{leaves}
use Rattle.closed_search.specs.Noted.{Noted, NotedLine, noted_by, noted_children, start_of}
use Rattle.closed_search.specs.Finished.{is_over, are_over}
use Rattle.closed_search.specs.Trace.{lines_in}
use Rattle.closed_search.specs.Refuted.{concept_is_listed, uses_names}
use Rattle.search_rules.specs.RuleLists.{RuleLists, context_in, theory_in, numbers_in}
use Rattle.search_state.specs.Progress.{ProgressLists, asked_by, IsFitLine}
use Rattle.tableau.specs.Inside.{IsClosing}

-- ---- numbers of the table

all_over : (w : SearchContext) (sub not_sup : ℕ) (ls : List NotedLine) → All (IsFitLine w sub not_sup) ls
    → are_over (length w.table) (map (λ l. l.line) ls) ≡ true
all_over w sub not_sup [] h = refl
all_over w sub not_sup (l ∷ ls) h =
    and_from (is_over (length w.table) l.line) (are_over (length w.table) (map (λ m. m.line) ls))
    (All-head (IsFitLine w sub not_sup) l ls h).over
    (all_over w sub not_sup ls (All-tail (IsFitLine w sub not_sup) l ls h))

pub closing_is_over : (rules : RuleLists) (p : ProgressLists) → IsClosing rules p
    → are_over (length rules.table) (lines_in p.trace) ≡ true
closing_is_over rules p h = all_over (context_in rules) p.sub p.not_sup p.trace.lines h.fit

-- ---- concepts with listed names

abbrev any : ℕ → Bool
any r = true

all_any : (rs : List ℕ) → list_all any rs ≡ true
all_any [] = refl
all_any (r ∷ rs) = all_any rs

axioms_any : (axioms : List Numbered) → list_all (λ (a : Numbered). list_all any (counted_by a.axiom)) axioms ≡ true
axioms_any [] = refl
axioms_any (a ∷ axioms) =
    and_from (list_all any (counted_by a.axiom)) (list_all (λ (b : Numbered). list_all any (counted_by b.axiom)) axioms)
    (all_any (counted_by a.axiom)) (axioms_any axioms)

module _ (o : Listed) where
  abbrev uses : Concept → Bool
  uses c = uses_listed (length o.classes) (length o.roles) c

  allowed : (c : Concept) → uses c ≡ true → IsAllowed (length o.classes) (length o.roles) any c
  allowed c h = (h, all_any (counted_roles c))

  names_kept : (ks : List ℕ) → IsOntologyInLimit o
      → IsKept (theory_of o.axioms ks) (fact_of_axiom (length o.individuals) o.axioms ks) (λ c. uses c ≡ true)
      (λ r. ltb r (length o.roles) ≡ true)
  names_kept ks limit =
      let k =
      allowed_kept (length o.classes) (length o.roles) (length o.individuals) any (length o.individuals) o.axioms ks
      (limit.listed, axioms_any o.axioms) in
      record {
        top_is = k.top_is.0;
        conjunct = λ cs c h m. (k.conjunct cs c (allowed (intersection (parts_of cs)) h) m).0;
        disjunct = λ cs c h m. (k.disjunct cs c (allowed (union (parts_of cs)) h) m).0;
        filler_of_some = λ r c h. (k.filler_of_some r c (allowed (some_of r c) h)).0;
        filler_of_all = λ r c h. (k.filler_of_all r c (allowed (all_of r c) h)).0;
        filler_of_least = λ n r c h. (k.filler_of_least n r c (allowed (at_least n r c) h)).0;
        filler_of_most = λ n r c h. (k.filler_of_most n r c (allowed (at_most n r c) h)).0;
        complement_of_most = λ n r c h. (k.complement_of_most n r c (allowed (at_most n r c) h)).0;
        carried = λ s t c h tr b. (k.carried s t c (allowed (all_of s c) h) tr b).0;
        row = λ a n q t c there is. (k.row a n q t c there is).0;
        edge_of_some = λ r c h. k.edge_of_some r c (allowed (some_of r c) h);
        edge_of_least = λ n r c h. k.edge_of_least n r c (allowed (at_least n r c) h);
        member = λ a n x c is. (k.member a n x c is).0;
        pair = k.pair;
      }

  -- ---- roles of lines

  module _ (theory : Theory) (fact_of : ℕ → ℕ → Option (Fact Concept))
      (kept : IsKept theory fact_of (λ c. uses c ≡ true) (λ r. ltb r (length o.roles) ≡ true)) where
    when_true : {A : Type 0} (b : Bool) (a : A) → ¬ (cond b (Some a) None ≡ None) → b ≡ true
    when_true true a h = refl
    when_true false a h = absurd (h refl)

    carry_listed : (x y t : ℕ) (found : Option Concept) → ¬ (carry_rule theory x y t found ≡ None)
        → ((c : Concept) → found ≡ Some c → uses c ≡ true) → ltb t (length o.roles) ≡ true
    carry_listed x y t None h u = absurd (h refl)
    carry_listed x y t (Some (all_of s e)) h u =
        let both =
        and_parts (theory.is_transitive t) (theory.below t s)
        (when_true (theory.is_transitive t && theory.below t s) _ h) in
        (and_parts (ltb t (length o.roles)) (uses e) (kept.carried s t e (u (all_of s e) refl) both.0 both.1)).0
    carry_listed x y t (Some top) h u = absurd (h refl)
    carry_listed x y t (Some bottom) h u = absurd (h refl)
    carry_listed x y t (Some (name a)) h u = absurd (h refl)
    carry_listed x y t (Some (complement c)) h u = absurd (h refl)
    carry_listed x y t (Some (intersection cs)) h u = absurd (h refl)
    carry_listed x y t (Some (union cs)) h u = absurd (h refl)
    carry_listed x y t (Some (some_of r c)) h u = absurd (h refl)
    carry_listed x y t (Some (at_least n r c)) h u = absurd (h refl)
    carry_listed x y t (Some (at_most n r c)) h u = absurd (h refl)
    carry_listed x y t (Some (exactly n r c)) h u = absurd (h refl)

  some_if : (b : Bool) (x t : Concept) → cond b (Some x) None ≡ Some t → x ≡ t
  some_if true x t h = cc
  some_if false x t h = cc

  module _ (rules : RuleLists) (p : ProgressLists)
      (kept : IsKept (theory_in rules) (context_in rules).fact_of (λ c. uses c ≡ true)
      (λ r. ltb r (length o.roles) ≡ true)) where
    abbrev asked : Question
    asked = asked_by (context_in rules) p

    abbrev concept : ℕ → Option Concept
    concept = concept_in rules.table

    line_listed : (l : Line) → ¬ (rule_of asked concept l ≡ None)
        → list_all (concept_is_listed o rules.table) (concept_numbers l) ≡ true → line_is_listed o l ≡ true
    line_listed (carry_line x y t c) h u =
        carry_listed (theory_in rules) (context_in rules).fact_of kept x y t (concept c) h
        (λ d is. subst (λ (e : Concept). uses e ≡ true)
        (some_if (ltb c (length rules.table)) (tree_of rules.table c) d is)
        (and_parts (concept_is_listed o rules.table c) true u).0)
    line_listed start_line h u = refl
    line_listed (and_line x c) h u = refl
    line_listed (or_line x c) h u = refl
    line_listed (all_line x y c) h u = refl
    line_listed (row_line x a p is) h u = refl
    line_listed (range_line x y a) h u = refl
    line_listed (some_line x y c) h u = refl
    line_listed (least_line x y c) h u = refl
    line_listed (choose_line y c) h u = refl
    line_listed (pair_line y z) h u = refl
    line_listed (bottom_line x) h u = refl
    line_listed (clash_line x c) h u = refl
    line_listed (most_line x c ys) h u = refl
    line_listed (fact_line a p) h u = refl
    line_listed (differ_line y z) h u = refl

    -- ---- lines that close

    abbrev step : Noted → NotedLine → Option (List Noted)
    step = noted_children asked concept

    has_rule : (k : Noted) (l : NotedLine) (kids : List Noted) → step k l ≡ Some kids
        → ¬ (rule_of asked concept l.line ≡ None)
    has_rule k l kids h none = let e : None ≡ Some kids = sym (ap (noted_by asked concept k l) none) ∙ h in cc

    abbrev are_named : List NotedLine → Bool
    are_named ls = list_all (uses_names o rules.table) (map (λ l. l.line) ls)

    module _ (sub not_sup : ℕ) (sub_listed : uses (tree_of rules.table sub) ≡ true)
        (not_sup_listed : uses (tree_of rules.table not_sup) ≡ true) where
      abbrev Fit : NotedLine → Type 0
      Fit = IsFitLine (context_in rules) sub not_sup

      uses_of : (l : NotedLine) (k : Noted) (kids : List Noted) → step k l ≡ Some kids → Fit l
          → uses_names o rules.table l.line ≡ true
      uses_of l k kids e fit =
          let concepts : list_all (concept_is_listed o rules.table) (concept_numbers l.line) ≡ true =
          fit.of_kind uses (λ r. ltb r (length o.roles)) kept sub_listed not_sup_listed in
          and_from (list_all (concept_is_listed o rules.table) (concept_numbers l.line)) (line_is_listed o l.line)
          concepts (line_listed l.line (has_rule k l kids e) concepts)

      after : (l : NotedLine) (ls : List NotedLine) (k : Noted) (ks outs : List Noted) (made : Option (List Noted))
          → step k l ≡ made → Fit l
          → ((now : List Noted) → leaves step now ls ≡ Some outs → are_named ls ≡ true)
          → option_and_then (λ (left : List Noted). leaves step left ls)
          (option_map (λ (new : List Noted). new ++ ks) made)
          ≡ Some outs
          → are_named (l ∷ ls) ≡ true
      after l ls k ks outs None e fit rest h = cc
      after l ls k ks outs (Some kids) e fit rest h =
          and_from (uses_names o rules.table l.line) (are_named ls) (uses_of l k kids e fit) (rest (kids ++ ks) h)

      pub lines_named : (ls : List NotedLine) (ks outs : List Noted) → All Fit ls → leaves step ks ls ≡ Some outs
          → are_named ls ≡ true
      lines_named [] ks outs fit h = refl
      lines_named (l ∷ ls) [] outs fit h = cc
      lines_named (l ∷ ls) (k ∷ ks) outs fit h =
          after l ls k ks outs (step k l) refl (All-head Fit l ls fit)
          (λ now. lines_named ls now outs (All-tail Fit l ls fit)) h

pub closing_is_listed : (rules : RuleLists) (p : ProgressLists) → IsClosing rules p → p.behind ≡ false
    → list_all (uses_names rules.ontology rules.table) (lines_in p.trace) ≡ true
closing_is_listed rules p h from_nothing =
    let o = rules.ontology in
    let classes = length o.classes in
    let roles = length o.roles in
    let both =
    and_parts (uses_listed classes roles p.query.sub) (uses_listed classes roles p.query.sup) h.in_limit.listed in
    let sub =
    ap (uses_listed classes roles) h.asked.sub_is
    ∙ (allowed_normal classes roles any p.query.sub (allowed o p.query.sub both.0)).0 in
    let not_sup =
    ap (uses_listed classes roles) h.asked.not_sup_is
    ∙ (allowed_negated classes roles any p.query.sup (allowed o p.query.sup both.1)).0 in
    lines_named o rules p (names_kept o (numbers_in rules) h.in_limit.ontology) p.sub p.not_sup sub not_sup
    p.trace.lines (start_of (asked_by (context_in rules) p) ∷ []) [] h.fit (h.closes from_nothing)
