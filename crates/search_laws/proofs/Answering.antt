-- The law: the other search ends saturated too.
use Rattle.std.proofs.Common.{◌≡◌, ℕ, zero, suc, ◌<◌, ◌⊎◌, eqb, Bool, true, false, List, [], ◌∷◌, ◌++◌, length, Some}
use Rattle.std.proofs.Common.{refl, ap, ◌∙◌, sym, subst, arith, inl, inr, eq-eqb, length-append}
use Rattle.std.proofs.lemmas.List.{append-nil, get_or_push}
use Rattle.std.proofs.lemmas.List.Elements.{All-weaker, All-head, All-tail}
use Rattle.std.proofs.lemmas.Bool.{cases_Bool, cases_lt, eqb-true}
use Rattle.calculus_specs.specs.Concept.{Concept, top as concept_top, name, complement}
use Rattle.calculus_specs.specs.Rules.{Question}
use Rattle.calculus_specs.specs.Normal.{normal_form}
use Rattle.calculus_specs.specs.Shape.{Shape, shape_of, IsTable}
use Rattle.calculus_specs.specs.Shape.Shape.{top, not_name}
use Rattle.calculus_specs.specs.Tree.{tree_of, trees_of, tree_over}
use Rattle.calculus_specs.specs.Rows.{Theory, Row, IsRowOf, IsChoice}
use Rattle.calculus_specs.proofs.Tree.{tree_of-append}
use Rattle.ontology_limits.proofs.Grown.{table_with_new}
use Rattle.ontology_limits.proofs.Numbers.{shape_tree}
use Rattle.tableau_specs.specs.declared.Item.{Item}
use Rattle.tableau_specs.specs.Steps.{IsSaturated}
use Rattle.tableau_specs.specs.Reached.{FactsHaveNumbers, start, context_of}
use Rattle.tableau_specs.proofs.Listed.{listed}
use Rattle.search_laws.specs.Runs.{IsRun, before_nodes, SetsApart, LeavesOut}
use Rattle.search_laws.specs.ReuseLaws.{EndsSaturated, with_sup, OneRunAnswersMore}
use Rattle.search_laws.proofs.LongerGiven.{facts_up}
use Rattle.search_laws.proofs.ReuseSetting.{short, IsSetting}
use Rattle.tableau_specs.specs.Items.{facts_of}
use Rattle.search_laws.proofs.Stepping.{saturated}
use Rattle.search_laws.proofs.Running.{PutsNoMore, followed, besides, unnamed_setting}

-- ---- the number of the complement

-- whether the shape is that of the complement of class a
abbrev is_complement_of : ℕ → Shape → Bool
is_complement_of a (not_name b) = eqb b a
is_complement_of a _ = false

complement_is : (a : ℕ) (s : Shape) → is_complement_of a s ≡ true → s ≡ not_name a
complement_is a (not_name b) h = ap not_name (eqb-true b a h)
complement_is a _ h = cc

is_complement : (a : ℕ) (s : Shape) → s ≡ not_name a → is_complement_of a s ≡ true
is_complement a s e = ap (is_complement_of a) e ∙ eq-eqb a a refl

-- some number below the bound has the shape, or none has
complement_below : (table : List Shape) (a bound : ℕ)
    → ((n : ℕ) × (n < bound) × (shape_of table n ≡ not_name a))
    ⊎ ((n : ℕ) → n < bound → ¬ (shape_of table n ≡ not_name a))
complement_below table a zero = inr (λ n lt. absurd (omega (arith, lt)))
complement_below table a (suc bound) = elim (cases_Bool (is_complement_of a (shape_of table bound))) [
  | inl hit ↦ inl (bound, omega arith, complement_is a (shape_of table bound) hit)
  | inr miss ↦ elim (complement_below table a bound) [
    | inl found ↦ inl (found.0, omega (arith, found.1), found.2)
    | inr none ↦ inr (λ n lt sh. elim (cases_lt n bound) [
      | inl less ↦ none n less sh
      | inr same ↦
          (let e : n ≡ bound = omega arith in
          let k = is_complement a (shape_of table bound) (ap (shape_of table) (sym e) ∙ sh) in cc)
    ])
  ]
]

-- the number of the complement of a class stands for it
pub complement_tree : (table : List Shape) → IsTable table → (n a : ℕ) → shape_of table n ≡ not_name a
    → tree_of table n ≡ complement (name a)
complement_tree table good n a sh =
    shape_tree table good n (listed table n (λ k. (let l = sym sh ∙ k in cc))) ∙ ap (tree_over (trees_of table)) sh

-- number 0 stands for top
pub zero_tree : (table : List Shape) → IsTable table → tree_of table 0 ≡ concept_top
zero_tree table good =
    shape_tree table good 0 good.has_top ∙ ap (tree_over (trees_of table)) good.begins_with_top

row_up : (theory : Theory) (table more : List Shape) (row : Row) → IsRowOf theory table row
    → IsRowOf theory (table ++ more) row
row_up theory table more row h = record {
  part = h.part;
  is_there = h.is_there;
  listed = omega (arith, h.listed, length-append table more);
  is_right = h.is_right ∙ ap (λ (t : Concept). Some t) (sym (tree_of-append table more row.concept h.listed));
}

pub choice_up : (theory : Theory) (table more : List Shape) (rows : List Row) → IsChoice theory table rows
    → IsChoice theory (table ++ more) rows
choice_up theory table more rows h = record {
  rows_fit =
      All-weaker (IsRowOf theory table) (IsRowOf theory (table ++ more)) (row_up theory table more) rows h.rows_fit;
  each_once = h.each_once;
}

-- ---- the end of the other run

module _ (q : Question) (table : List Shape) (rows : List Row) (home number a : ℕ) (good : IsTable table)
    (fits : IsChoice q.theory table rows) (have : FactsHaveNumbers q table) (is_first : q.at < q.first)
    (number_listed : number < length table) (number_reads : tree_of table number ≡ normal_form q.sub)
    (trail : List Item) (earlier : List (List Item))
    (run : IsRun (context_of q table rows) (start home number 0) (trail ∷ earlier))
    (sat : IsSaturated (context_of q table rows) trail) (h : LeavesOut q.first q.at table (trail ∷ earlier) a)
    (set_of : (more : List Shape) (n : ℕ) → IsTable (table ++ more) → shape_of (table ++ more) n ≡ not_name a
    → (rest : List Item) (before : List (List Item))
    → IsRun (context_of q table rows) (start home number 0) ((start home number 0 ++ rest) ∷ before)
    → PutsNoMore ((start home number 0 ++ rest) ∷ before) (trail ∷ earlier)
    → IsSetting q table more home number n a (facts_of rest)) where
  -- over the table, or one that has grown
  answers : (more : List Shape) (n : ℕ) → IsTable (table ++ more)
      → (table ++ more ≡ table) ⊎ (table ++ more ≡ table ++ not_name a ∷ [])
      → shape_of (table ++ more) n ≡ not_name a
      → EndsSaturated table rows a (with_sup q (name a)) (length earlier)
  answers more n longer is_longer shape_n =
      let all : List (List Item) = trail ∷ earlier in
      let Apart : List Item → Type 0 = SetsApart q.first q.at table all a in
      let inside : PutsNoMore all all = λ p ever. ever in
      let f =
      followed q table more rows good fits n a shape_n home number number_listed all h (set_of more n longer shape_n)
      trail earlier run inside (All-tail Apart trail (before_nodes q.first all) h.complement_is_apart) in
      let w = short q table more rows in
      let last : List Item = start home number 0 ++ f.rest in
      let run_of : IsRun w (start home number 0) (last ∷ earlier) =
      subst (λ (is : List Item). IsRun w (start home number 0) (is ∷ earlier)) f.splits run in
      let put : PutsNoMore (last ∷ earlier) all =
      subst (λ (is : List Item). PutsNoMore (is ∷ earlier) all) f.splits inside in
      let set = set_of more n longer shape_n f.rest earlier run_of put in
      let own =
      besides q table more rows good fits n a shape_n home number number_listed f.rest earlier run_of all put set.stays
      set.alone h (subst Apart f.splits (All-head Apart trail (before_nodes q.first all) h.complement_is_apart)) in
      let n_listed : n < length (table ++ more) = listed (table ++ more) n (λ k. (let l = sym shape_n ∙ k in cc)) in
      record {
        longer = table ++ more;
        is_longer = is_longer;
        trail = start q.at number n ++ f.rest;
        reached = record {
          is_table = longer;
          is_choice = choice_up q.theory table more rows fits;
          facts_have_numbers = facts_up q table more rows have;
          at_first = is_first;
          sub_number = number;
          sub_listed = omega (arith, number_listed, length-append table more);
          sub_reads = tree_of-append table more number number_listed ∙ number_reads;
          not_sup_number = n;
          not_sup_listed = n_listed;
          not_sup_reads = complement_tree (table ++ more) longer n a shape_n;
          follows = f.follows;
        };
        is_saturated =
            saturated q table more rows good n a shape_n home number f.rest set longer have own
            (subst (IsSaturated w) f.splits sat);
      }

  pub answered : EndsSaturated table rows a (with_sup q (name a)) (length earlier)
  answered = elim (complement_below table a (length table)) [
    | inl found ↦
        answers [] found.0 (subst IsTable (sym (append-nil table)) good) (inl (append-nil table))
        (ap (λ (t : List Shape). shape_of t found.0) (append-nil table) ∙ found.2)
    | inr none ↦
        answers (not_name a ∷ []) (length table) (table_with_new table (not_name a) good refl refl none)
        (inr refl)
        (get_or_push table (not_name a) top (length table) refl)
  ]

-- ---- the law

pub one_run_answers_more : OneRunAnswersMore
one_run_answers_more q table rows number k a trail earlier good fits have is_first unnamed lt reads run steps sat out =
    subst (EndsSaturated table rows a (with_sup q (name a))) steps
    (answered q table rows q.at number a good fits have is_first lt reads trail earlier run sat out
    (λ more n longer shape_n. unnamed_setting q table more rows good fits n a shape_n number lt is_first unnamed
    (trail ∷ earlier) out))
