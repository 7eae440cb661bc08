-- The worked examples of closed tableaux.
use Rattle.std.specs.Prelude.{slice_get}
use Rattle.std.proofs.Common.{◌≡◌, ◌<◌, ℕ, zero, suc, ◌+◌, ◌⊎◌, true, false, List, [], ◌∷◌, ◌++◌, Some, refl, lit<}
use Rattle.std.proofs.Common.{lit≤}
use Rattle.std.proofs.Common.{ap, sym, subst, ◌∙◌, arith, inl, inr}
use Rattle.std.proofs.lemmas.Bool.{eqb-true}
use Rattle.std.proofs.lemmas.List.Elements.{All-nil, All-cons}
use Rattle.calculus_specs.specs.Shape.{Shape, shape_of, has_parts_below, is_normal, IsTable}
use Rattle.calculus_specs.specs.Shape.Shape.{bottom, name as name_shape, not_name, intersection, union, at_most}
use Rattle.calculus_specs.specs.Rows.{IsRowOf}
use Rattle.calculus_specs.specs.declared.facts.Fact.{Fact}
use Rattle.calculus_specs.specs.declared.facts.Fact.TheVariants.{Has}
use Rattle.calculus_specs.specs.State.{node_count_from, has, are_apart}
use Rattle.tableau_specs.specs.declared.Branch.TheVariants.{Or}
use Rattle.tableau_specs.specs.declared.Item.{Item}
use Rattle.tableau_specs.specs.declared.Item.TheVariants.{Fact as Says, Mark}
use Rattle.tableau_specs.specs.Items.{facts_of}
use Rattle.tableau_specs.specs.Clash.IsClash.{of_names}
use Rattle.tableau_specs.specs.Clash.IsPlainClash.{plain_bottom, plain_names, plain_most, plain_differ}
use Rattle.tableau_specs.specs.Steps.{SearchContext, MayBranch, IsAlternative, HasPlainClash}
use Rattle.tableau_specs.specs.Steps.Adds.{by_and}
use Rattle.tableau_specs.specs.Steps.MayBranch.{on_union}
use Rattle.tableau_specs.specs.Steps.IsAlternative.{of_union}
use Rattle.tableau_specs.specs.Steps.IsLegal.{add}
use Rattle.tableau_specs.specs.Reached.{context_of}
use Rattle.search_laws.specs.CounterModelLaws.{IsCounterModel}
use Rattle.guided_search.specs.ClosedTableau.{ClosedTableau, HasClosedTableau}
use Rattle.guided_search.specs.ClosedTableau.ClosedTableau.{by_clash, by_step, by_choice}
use Rattle.guided_search.specs.TableauExamples.{two_classes, question, table, first, first_in_second, one_element}
use Rattle.guided_search.specs.TableauExamples.{ExamplesHold}
use Rattle.guided_search.proofs.Closing.{mark}
use Rattle.guided_search.proofs.Everywhere.{tableaux_exclude_counter_models}

abbrev context : SearchContext
context = context_of question table []

-- ---- the table

below_each : (c : ℕ) → c < 7 → has_parts_below c (shape_of table c) ≡ true
below_each zero lt = refl
below_each (suc zero) lt = refl
below_each (suc (suc zero)) lt = refl
below_each (suc (suc (suc zero))) lt = refl
below_each (suc (suc (suc (suc zero)))) lt = refl
below_each (suc (suc (suc (suc (suc zero))))) lt = refl
below_each (suc (suc (suc (suc (suc (suc zero)))))) lt = refl
below_each (suc (suc (suc (suc (suc (suc (suc c))))))) lt = absurd (omega arith)

normal_each : (c : ℕ) → c < 7 → is_normal table (shape_of table c) ≡ true
normal_each zero lt = refl
normal_each (suc zero) lt = refl
normal_each (suc (suc zero)) lt = refl
normal_each (suc (suc (suc zero))) lt = refl
normal_each (suc (suc (suc (suc zero)))) lt = refl
normal_each (suc (suc (suc (suc (suc zero))))) lt = refl
normal_each (suc (suc (suc (suc (suc (suc zero)))))) lt = refl
normal_each (suc (suc (suc (suc (suc (suc (suc c))))))) lt = absurd (omega arith)

-- where a shape stands, if it stands anywhere
abbrev place_of : Shape → ℕ
place_of (name_shape a) = a + 1
place_of (not_name a) = a + 3
place_of (union cs) = 5
place_of (intersection cs) = 6
place_of _ = 0

stands_at : (c : ℕ) → c < 7 → place_of (shape_of table c) ≡ c
stands_at zero lt = refl
stands_at (suc zero) lt = refl
stands_at (suc (suc zero)) lt = refl
stands_at (suc (suc (suc zero))) lt = refl
stands_at (suc (suc (suc (suc zero)))) lt = refl
stands_at (suc (suc (suc (suc (suc zero))))) lt = refl
stands_at (suc (suc (suc (suc (suc (suc zero)))))) lt = refl
stands_at (suc (suc (suc (suc (suc (suc (suc c))))))) lt = absurd (omega arith)

is_table : IsTable table
is_table = record {
  has_top = lit< tt;
  begins_with_top = refl;
  parts_below = below_each;
  are_normal = normal_each;
  are_distinct = λ c d lt mt e. sym (stands_at c lt) ∙ ap place_of e ∙ stands_at d mt;
}

-- no number is bottom or an 'at most', and only 3 and 4 are complements
abbrev IsPlain : ℕ → Shape → Type 0
IsPlain c bottom = ⊥
IsPlain c (at_most n s e) = ⊥
IsPlain c (not_name a) = (c ≡ 3) ⊎ (c ≡ 4)
IsPlain c _ = Unit {0}

plain_each : (c : ℕ) → IsPlain c (shape_of table c)
plain_each zero = tt
plain_each (suc zero) = tt
plain_each (suc (suc zero)) = tt
plain_each (suc (suc (suc zero))) = inl refl
plain_each (suc (suc (suc (suc zero)))) = inr refl
plain_each (suc (suc (suc (suc (suc zero))))) = tt
plain_each (suc (suc (suc (suc (suc (suc zero)))))) = tt
plain_each (suc (suc (suc (suc (suc (suc (suc c))))))) = tt

-- so node 0 alone has no plain clash where it has neither
lacks : (fs : List (Fact ℕ)) (x d n : ℕ) → x ≡ 0 → d ≡ n → has fs 0 n ≡ false → ¬ (has fs x d ≡ true)
lacks fs x d n zero_ e out h =
    let k : has fs 0 n ≡ true =
    ap (λ (y : ℕ). has fs y n) (sym zero_) ∙ ap (λ (c : ℕ). has fs x c) (sym e) ∙ h in
    cc

no_plain : (is : List Item) → node_count_from 1 (facts_of is) ≡ 1 → has (facts_of is) 0 3 ≡ false
    → has (facts_of is) 0 4 ≡ false → are_apart (facts_of is) 0 0 ≡ false → ¬ HasPlainClash context is
no_plain is one out three none (plain_bottom x c lt h sh) = subst (IsPlain c) sh (plain_each c)
no_plain is one out three none (plain_names x c d a lt h sh g th) = elim (subst (IsPlain d) th (plain_each d)) [
  | inl e ↦ lacks (facts_of is) x d 3 (omega (arith, lt, one)) e out g
  | inr e ↦ lacks (facts_of is) x d 4 (omega (arith, lt, one)) e three g
]
no_plain is one out three none (plain_differ y z lt mt apart same) =
    let a : y ≡ 0 = omega (arith, lt, one) in
    let b : z ≡ 0 = omega (arith, mt, one) in
    let k : are_apart (facts_of is) 0 0 ≡ true =
    ap (λ (v : ℕ). are_apart (facts_of is) v 0) (sym a) ∙ ap (λ (v : ℕ). are_apart (facts_of is) y v) (sym b) ∙ apart in
    cc
no_plain is one out three none (plain_most x c n s e lt h sh more every) = subst (IsPlain c) sh (plain_each c)

-- ---- the tableau

-- the trail of an alternative, which gives node 0 the concept
abbrev chosen : ℕ → ℕ → List Item
chosen n c = first ++ Mark (mark 1 (Or 0 5) n) ∷ Says (Has 0 c) ∷ []

-- it is in the first class: it is in the complement of that
in_first : ClosedTableau context (chosen 1 1)
in_first =
    by_step (chosen 1 1) (Has 0 3 ∷ [])
    (add 0 3 (no_plain (chosen 1 1) refl refl refl refl) (by_and 0 6 3 (3 ∷ 4 ∷ []) (lit< tt) refl refl (0, lit< tt, refl))
    refl)
    (by_clash (chosen 1 1 ++ Says (Has 0 3) ∷ []) (of_names 0 1 3 0 (lit< tt) refl refl refl refl))

-- or it is in the second
in_second : ClosedTableau context (chosen 2 2)
in_second =
    by_step (chosen 2 2) (Has 0 4 ∷ [])
    (add 0 4 (no_plain (chosen 2 2) refl refl refl refl) (by_and 0 6 4 (3 ∷ 4 ∷ []) (lit< tt) refl refl (1, lit< tt, refl))
    refl)
    (by_clash (chosen 2 2 ++ Says (Has 0 4) ∷ []) (of_names 0 2 4 1 (lit< tt) refl refl refl refl))

may_choose : MayBranch context (facts_of first) (Or 0 5)
may_choose =
    on_union 0 5 (1 ∷ 2 ∷ []) (lit< tt) refl refl
    (All-cons (λ d. has (facts_of first) 0 d ≡ false) 1 (2 ∷ []) refl
    (All-cons (λ d. has (facts_of first) 0 d ≡ false) 2 [] refl
    (All-nil (λ d. has (facts_of first) 0 d ≡ false))))

in_part : (k d : ℕ) → slice_get (1 ∷ 2 ∷ []) k ≡ Some d → ClosedTableau context (chosen (k + 1) d)
in_part zero d at =
    let e : 1 ≡ d = cc in
    subst (λ (c : ℕ). ClosedTableau context (chosen 1 c)) e in_first
in_part (suc zero) d at =
    let e : 2 ≡ d = cc in
    subst (λ (c : ℕ). ClosedTableau context (chosen 2 c)) e in_second
in_part (suc (suc k)) d at = cc

each_closes : (n : ℕ) (f : Fact ℕ) → IsAlternative table (Or 0 5) n f
    → ClosedTableau context (first ++ Mark (mark 1 (Or 0 5) n) ∷ Says f ∷ [])
each_closes n f (of_union x c k d parts sh at) =
    let e : parts ≡ 1 ∷ 2 ∷ [] = cc in
    in_part k d (ap (λ (ps : List ℕ). slice_get ps k) (sym e) ∙ at)

tableau : ClosedTableau context first
tableau = by_choice first 1 (Or 0 5) (no_plain first refl refl refl refl) may_choose tt each_closes

closes : HasClosedTableau question
closes = record {
  table = table;
  rows = [];
  trail = first;
  begun = record {
    is_table = is_table;
    is_choice = record { rows_fit = All-nil (IsRowOf question.theory table); each_once = All-nil _ };
    facts_have_numbers = λ a p f e. cc;
    at_first = lit< tt;
    sub_number = 5;
    sub_listed = lit< tt;
    sub_reads = refl;
    not_sup_number = 6;
    not_sup_listed = lit< tt;
    not_sup_reads = refl;
    follows = refl;
  };
  tableau = tableau;
}

-- ---- the question without one

is_counter_model : IsCounterModel two_classes [] first_in_second one_element
is_counter_model = record {
  names_are_listed = record {
    class_is = λ a v lt e. let is = eqb-true a 0 e in omega (arith, is);
    role_is = λ s v u lt mt e. cc;
    individual_is = λ a le. refl;
  };
  has_element = lit≤ tt;
  places = λ a. lit< tt;
  meets_axioms = refl;
  counter_example = 0;
  is_element = lit< tt;
  refutes = refl;
}

pub worked_out : ExamplesHold
worked_out = record {
  closed_tableau = tableau;
  has_closed_tableau = closes;
  counter_model = is_counter_model;
  no_closed_tableau =
      λ h. tableaux_exclude_counter_models two_classes [] first_in_second one_element h is_counter_model;
}
