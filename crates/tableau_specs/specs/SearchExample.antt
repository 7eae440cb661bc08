-- A worked search: whether class 10 is in class 11, by the one axiom that says so. Its row is used at nodes that have
-- class 10. The table's numbers are: 0 top, 1 class 10, 2 class 11, 3 the complement of class 11.
use Rattle.std.specs.Prelude.{◌≡◌, ℕ, zero, suc, ◌<◌, true, false, ◌==◌, List, [], ◌∷◌, ◌++◌, None, if◌then◌else◌, refl}
use Rattle.std.proofs.Common.{lit<, ap, sym, subst, ◌∙◌, arith, inr}
use Rattle.std.specs.List.{count_by}
use Rattle.std.proofs.lemmas.List.Elements.{All-nil, All-cons}
use Rattle.calculus_specs.specs.Concept.{name}
use Rattle.calculus_specs.specs.Shape.{Shape, shape_of, has_parts_below, is_normal, IsTable}
use Rattle.calculus_specs.specs.Shape.Shape.{top, name as name_shape, not_name}
use Rattle.calculus_specs.specs.Rows.{Theory, Row, IsRowOf, IsChoice, is_row_of, inclusion_of}
use Rattle.calculus_specs.specs.Rows.Trigger.{names}
use Rattle.calculus_specs.specs.declared.facts.Fact.TheVariants.{Has}
use Rattle.calculus_specs.specs.State.{has}
use Rattle.tableau_specs.specs.declared.Item.{Item}
use Rattle.tableau_specs.specs.declared.Item.TheVariants.{Fact as Says}
use Rattle.tableau_specs.specs.Items.{facts_of}
use Rattle.tableau_specs.specs.Clash.IsClash.{of_names}
use Rattle.tableau_specs.specs.Clash.IsPlainClash.{plain_bottom, plain_names, plain_most, plain_differ}
use Rattle.tableau_specs.specs.Steps.{SearchContext, IsLegal, HasClash, HasPlainClash}
use Rattle.tableau_specs.specs.Steps.Adds.{by_row}
use Rattle.tableau_specs.specs.Steps.IsLegal.{add}
use Rattle.tableau_specs.specs.StepExamples.{IsPlain}
use Rattle.tableau_specs.specs.Reached.{start, IsReached, Costs}
use Rattle.calculus_specs.specs.Rules.{on_any}

abbrev table : List Shape
table = top ∷ name_shape 10 ∷ name_shape 11 ∷ not_name 11 ∷ []

abbrev theory : Theory
theory = record {
  parts = record { axiom_number = 1; part_number = 1; part = inclusion_of (name 10) (name 11) } ∷ [];
  below = λ r s. r == s;
  is_transitive = λ r. false;
}

abbrev row : Row
row = record { axiom_number = 1; part_number = 1; trigger = names (1 ∷ []); concept = 2 }

abbrev context : SearchContext
context = record { theory = theory; table = table; rows = row ∷ []; first = 1; fact_of = λ a p. None }

-- ---- the table and the row are what they are to be

below_each : (c : ℕ) → c < 4 → has_parts_below c (shape_of table c) ≡ true
below_each zero lt = refl
below_each (suc zero) lt = refl
below_each (suc (suc zero)) lt = refl
below_each (suc (suc (suc zero))) lt = refl
below_each (suc (suc (suc (suc c)))) lt = absurd (omega arith)

normal_each : (c : ℕ) → c < 4 → is_normal table (shape_of table c) ≡ true
normal_each zero lt = refl
normal_each (suc zero) lt = refl
normal_each (suc (suc zero)) lt = refl
normal_each (suc (suc (suc zero))) lt = refl
normal_each (suc (suc (suc (suc c)))) lt = absurd (omega arith)

-- where a shape stands, if it stands anywhere
abbrev place_of : Shape → ℕ
place_of (name_shape a) = if a == 10 then 1 else 2
place_of (not_name a) = 3
place_of _ = 0

stands_at : (c : ℕ) → c < 4 → place_of (shape_of table c) ≡ c
stands_at zero lt = refl
stands_at (suc zero) lt = refl
stands_at (suc (suc zero)) lt = refl
stands_at (suc (suc (suc zero))) lt = refl
stands_at (suc (suc (suc (suc c)))) lt = absurd (omega arith)

pub is_table : IsTable table
is_table = record {
  has_top = lit< tt;
  begins_with_top = refl;
  parts_below = below_each;
  are_normal = normal_each;
  are_distinct = λ c d lt mt e. sym (stands_at c lt) ∙ ap place_of e ∙ stands_at d mt;
}

pub is_choice : IsChoice theory table (row ∷ [])
is_choice = record {
  rows_fit =
      All-cons (IsRowOf theory table) row []
      (record { part = inclusion_of (name 10) (name 11); is_there = refl; listed = lit< tt; is_right = refl })
      (All-nil (IsRowOf theory table));
  each_once =
      All-cons (λ n. count_by (λ r. is_row_of r n) (row ∷ []) ≡ 1)
      (record { axiom_number = 1; part_number = 1; part = inclusion_of (name 10) (name 11) }) [] refl
      (All-nil (λ n. count_by (λ r. is_row_of r n) (row ∷ []) ≡ 1));
}

-- ---- the search

abbrev first : List Item
first = start 0 1 3

-- the row gives node 0 class 11
abbrev second : List Item
second = first ++ Says (Has 0 2) ∷ []

-- at first there is no plain clash: the one complement is of class 11, and node 0 does not have that class
plain_each : (c : ℕ) → IsPlain (shape_of table c)
plain_each zero = tt
plain_each (suc zero) = tt
plain_each (suc (suc zero)) = tt
plain_each (suc (suc (suc zero))) = tt
plain_each (suc (suc (suc (suc c)))) = tt

abbrev IsOfEleven : Shape → Type 0
IsOfEleven (not_name a) = a ≡ 11
IsOfEleven _ = Unit {0}

of_eleven : (c : ℕ) → IsOfEleven (shape_of table c)
of_eleven zero = tt
of_eleven (suc zero) = tt
of_eleven (suc (suc zero)) = tt
of_eleven (suc (suc (suc zero))) = refl
of_eleven (suc (suc (suc (suc c)))) = tt

eleven_is_two : (c : ℕ) → shape_of table c ≡ name_shape 11 → c ≡ 2
eleven_is_two zero e = cc
eleven_is_two (suc zero) e = (let k : ◌≡◌ {A = ℕ} 10 11 = cc in cc)
eleven_is_two (suc (suc zero)) e = refl
eleven_is_two (suc (suc (suc zero))) e = cc
eleven_is_two (suc (suc (suc (suc c)))) e = cc

no_plain_clash : ¬ HasPlainClash context first
no_plain_clash (plain_bottom x c lt h sh) = subst IsPlain sh (plain_each c)
no_plain_clash (plain_names x c d a lt h sh g th) =
    let e : a ≡ 11 = subst IsOfEleven th (of_eleven d) in
    let k : c ≡ 2 = eleven_is_two c (sh ∙ ap name_shape e) in
    let z : x ≡ 0 = omega (arith, lt) in
    let f : has (facts_of first) 0 2 ≡ true =
    ap (λ (y : ℕ). has (facts_of first) y 2) (sym z) ∙ ap (has (facts_of first) x) (sym k) ∙ h in
    cc
no_plain_clash (plain_differ y z lt mt apart same) = cc
no_plain_clash (plain_most x c n s e lt h sh more every) = subst IsPlain sh (plain_each c)

pub row_is_used : IsLegal context first second
row_is_used = add 0 2 no_plain_clash (by_row 0 row (lit< tt) (0, lit< tt, refl) refl) refl

pub reached : IsReached (on_any theory (name 10) (name 11)) table (row ∷ []) 1 second
reached = record {
  is_table = is_table;
  is_choice = is_choice;
  facts_have_numbers = λ a p f e. cc;
  at_first = lit< tt;
  sub_number = 1;
  sub_listed = lit< tt;
  sub_reads = refl;
  not_sup_number = 3;
  not_sup_listed = lit< tt;
  not_sup_reads = refl;
  follows = (first, refl, row_is_used);
}

pub clashes : HasClash context second
clashes = of_names 0 2 3 11 (lit< tt) refl refl refl refl

-- one step decides, where the answer is yes
pub one_step : (IsEntailed : Type 0) → IsEntailed → Costs (on_any theory (name 10) (name 11)) IsEntailed 1
one_step IsEntailed yes' =
    record { table = table; rows = row ∷ []; trail = second; reached = reached; ends = inr (clashes, yes') }
