-- Worked beginnings: of what is asked of an element without a name, while one individual is in a class.
use Rattle.std.specs.Prelude.{◌≡◌, ◌==◌, ℕ, zero, suc, ◌<◌, ◌≤◌, true, false, List, [], ◌∷◌, ◌++◌}
use Rattle.std.specs.Prelude.{◌||◌, ◌⊎◌, Bool, nat_lt, if◌then◌else◌, Option, Some, None, refl}
use Rattle.std.proofs.Common.{lit<, lit≤, ap, sym, subst, ◌∙◌, arith, inl, inr}
use Rattle.std.proofs.lemmas.Bool.{eqb-true}
use Rattle.std.proofs.lemmas.List.Elements.{All-nil, All-cons}
use Rattle.shq_terms.specs.Concept.{name as class, some_of as some}
use Rattle.calculus_specs.specs.Joins.{rep}
use Rattle.calculus_specs.specs.Shape.{Shape, shape_of}
use Rattle.calculus_specs.specs.Shape.Shape.{top, name, not_name, some_of}
use Rattle.calculus_specs.specs.declared.facts.Fact.TheVariants.{Has}
use Rattle.calculus_specs.specs.State.{fresh_facts, has, parent_from}
use Rattle.tableau_specs.specs.declared.Block.TheVariants.{Clear, By}
use Rattle.tableau_specs.specs.declared.Item.{Item}
use Rattle.tableau_specs.specs.declared.Item.TheVariants.{Fact as Says}
use Rattle.tableau_specs.specs.Items.{facts_of, says}
use Rattle.tableau_specs.specs.Blocked.{block_of}
use Rattle.tableau_specs.specs.Clash.IsPlainClash.{plain_bottom, plain_names, plain_most, plain_differ}
use Rattle.tableau_specs.specs.Steps.{SearchContext, HasPlainClash}
use Rattle.tableau_specs.specs.Reached.{start}
use Rattle.tableau_specs.specs.StepExamples.{IsPlain}
use Rattle.search_laws.specs.Runs.{was_ever, puts_at}
use Rattle.search_laws.specs.BeginningLaws.{is_inside, ParentsHaveMore, IsBeginning, asks_for_nodes}

-- ---- a run in which node 0 is that of an individual, which is in 'some 7 (some 7 A)', and node 1 the one in question;
-- A is class 10

-- numbers 1 to 5: A, B, the complement of B, 'some 7 A', 'some 7 (some 7 A)'
abbrev table : List Shape
table = top ∷ name 10 ∷ name 11 ∷ not_name 11 ∷ some_of 7 1 ∷ some_of 7 4 ∷ []

abbrev context : SearchContext
context = record {
  theory = record { parts = []; below = λ r s. r == s; is_transitive = λ r. false };
  table = table;
  rows = [];
  first = 2;
  fact_of = λ a p. Some (Has 0 (some 7 (some 7 (class 10))));
}

-- what is given, then a node below the individual's, and one below that
abbrev given : List Item
given = start 1 0 0 ++ Says (Has 0 5) ∷ []

abbrev one_below : List Item
one_below = given ++ says (fresh_facts 0 7 4 2 1)

abbrev two_below : List Item
two_below = one_below ++ says (fresh_facts 2 7 1 3 1)

abbrev run : List (List Item)
run = two_below ∷ one_below ∷ given ∷ start 1 0 0 ∷ []

-- ---- where a label lies inside the start

-- node 2 has 'some 7 A' and top: it lies inside the start of whether 'some 7 A' is in B, and not inside that of whether
-- A is in B
pub lies_inside : is_inside 4 3 (facts_of two_below) 2 ≡ true
lies_inside = refl

pub lies_outside : is_inside 1 3 (facts_of two_below) 2 ≡ false
lies_outside = refl

-- it is clear in the run, and so it is behind the start of whether A is in B; behind the other one the node in question
-- blocks it, so that the step that made a node below it would not be legal
pub was_clear : block_of 2 (facts_of two_below) 2 ≡ Clear
was_clear = refl

pub stays_clear : block_of 2 (facts_of (start 1 1 3 ++ Says (Has 0 5) ∷ says (fresh_facts 0 7 4 2 1))) 2 ≡ Clear
stays_clear = refl

pub would_be_blocked : block_of 2 (facts_of (start 1 4 3 ++ Says (Has 0 5) ∷ says (fresh_facts 0 7 4 2 1))) 2 ≡ By 1
would_be_blocked = refl

-- so the run is no beginning for that one
pub is_none_for_its_own : ¬ IsBeginning context 1 4 3 run
is_none_for_its_own h = (let k = h.parents_have_more 0 two_below (lit< tt) 3 2 refl (lit≤ tt) in cc)

-- ---- where the run is a beginning: for the start of whether A is in B

-- no trail gives the node in question more than top
only : (t : Bool)
    → ((t || (t || false)) || ((t || (t || false)) || ((t || (t || false)) || ((t || (t || false)) || false)))) ≡ true
    → t ≡ true
only true ever = refl
only false ever = cc

says_nothing : (c : ℕ) → was_ever (puts_at 1 c) run ≡ true → c ≡ 0
says_nothing c ever = sym (eqb-true 0 c (only (0 == c) ever))

-- node 2 is the one with a node below it that is no first node, and it has 'some 7 A' besides
up_of_two : (low is_two is_three : Bool) (p : ℕ)
    → (if low then None else (if is_two then Some 0 else (if is_three then Some 2 else None))) ≡ Some p
    → (p ≡ 0) ⊎ (p ≡ 2)
up_of_two true is_two is_three p e = cc
up_of_two false true is_three p e = inl cc
up_of_two false false true p e = inr cc
up_of_two false false false p e = cc

two_have_more : ParentsHaveMore 2 1 3 (facts_of two_below)
two_have_more x p is_parent far =
    elim (up_of_two (nat_lt x 2) (2 == x) (3 == x) p is_parent) [
      | inl z ↦ absurd (omega (arith, subst (λ (y : ℕ). 2 ≤ rep (facts_of two_below) y) z far))
      | inr two ↦ ap (is_inside 1 3 (facts_of two_below)) two
    ]

up_of_one : (low is_two : Bool) (p : ℕ) → (if low then None else (if is_two then Some 0 else None)) ≡ Some p → p ≡ 0
up_of_one true is_two p e = cc
up_of_one false true p e = cc
up_of_one false false p e = cc

one_has_more : ParentsHaveMore 2 1 3 (facts_of one_below)
one_has_more x p is_parent far =
    absurd (omega (
      arith,
      subst (λ (y : ℕ). 2 ≤ rep (facts_of one_below) y)
          (up_of_one (nat_lt x 2) (2 == x) p is_parent) far,
    ))

none_below : (low : Bool) (p : ℕ) → ¬ (◌≡◌ {A = Option ℕ} (if low then None else None) (Some p))
none_below true p e = cc
none_below false p e = cc

-- no concept of the table is bottom or an 'at most', and the one complement is that of B, which is number 2
plain_each : (c : ℕ) → IsPlain (shape_of table c)
plain_each zero = tt
plain_each (suc zero) = tt
plain_each (suc (suc zero)) = tt
plain_each (suc (suc (suc zero))) = tt
plain_each (suc (suc (suc (suc zero)))) = tt
plain_each (suc (suc (suc (suc (suc zero))))) = tt
plain_each (suc (suc (suc (suc (suc (suc c)))))) = tt

complement_is_of_b : (d a : ℕ) → shape_of table d ≡ not_name a → a ≡ 11
complement_is_of_b zero a e = cc
complement_is_of_b (suc zero) a e = cc
complement_is_of_b (suc (suc zero)) a e = cc
complement_is_of_b (suc (suc (suc zero))) a e = cc
complement_is_of_b (suc (suc (suc (suc zero)))) a e = cc
complement_is_of_b (suc (suc (suc (suc (suc zero))))) a e = cc
complement_is_of_b (suc (suc (suc (suc (suc (suc d)))))) a e = cc

b_is_two : (c : ℕ) → shape_of table c ≡ name 11 → c ≡ 2
b_is_two zero e = cc
b_is_two (suc zero) e = cc
b_is_two (suc (suc zero)) e = refl
b_is_two (suc (suc (suc zero))) e = cc
b_is_two (suc (suc (suc (suc zero)))) e = cc
b_is_two (suc (suc (suc (suc (suc zero))))) e = cc
b_is_two (suc (suc (suc (suc (suc (suc c)))))) e = cc

nothing_has_b : (x : ℕ) → x < 2 → ¬ (has (facts_of (start 1 1 3)) x 2 ≡ true)
nothing_has_b zero lt h = cc
nothing_has_b (suc zero) lt h = cc
nothing_has_b (suc (suc x)) lt h = absurd (omega (arith, lt))

start_is_clear : ¬ HasPlainClash context (start 1 1 3)
start_is_clear (plain_bottom x c lt h sh) = subst IsPlain sh (plain_each c)
start_is_clear (plain_names x c d a lt h sh g th) =
    let of_b = complement_is_of_b d a th in
    let is_two = b_is_two c (sh ∙ ap name of_b) in
    nothing_has_b x lt (subst (λ (k : ℕ). has (facts_of (start 1 1 3)) x k ≡ true) is_two h)
start_is_clear (plain_most x c n s e lt h sh more every) = subst IsPlain sh (plain_each c)
start_is_clear (plain_differ y z lt mt apart one) = cc

bare_has_more : (trail : List Item) → ((x : ℕ) → parent_from 2 (facts_of trail) x ≡ (if nat_lt x 2 then None else None))
    → ParentsHaveMore 2 1 3 (facts_of trail)
bare_has_more trail none x p is_parent far = absurd (none_below (nat_lt x 2) p (sym (none x) ∙ is_parent))

abbrev HaveMore : List Item → Type 0
HaveMore trail = ParentsHaveMore 2 1 3 (facts_of trail)

pub is_one_for_the_others : IsBeginning context 1 1 3 run
is_one_for_the_others = record {
  says_nothing_there = says_nothing;
  parents_have_more =
      All-cons HaveMore two_below (one_below ∷ given ∷ start 1 0 0 ∷ []) two_have_more
      (All-cons HaveMore one_below (given ∷ start 1 0 0 ∷ []) one_has_more
      (All-cons HaveMore given (start 1 0 0 ∷ []) (bare_has_more given (λ x. refl))
      (All-cons HaveMore (start 1 0 0) [] (bare_has_more (start 1 0 0) (λ x. refl)) (All-nil HaveMore))));
  start_is_clear = start_is_clear;
}

-- 'some' asks for nodes, and a name and its complement do not
pub one_asks : asks_for_nodes (some_of 7 1) ≡ true
one_asks = refl

pub others_do_not : (asks_for_nodes (name 10) ≡ false) × (asks_for_nodes (not_name 11) ≡ false)
others_do_not = (refl, refl)

-- node 0, below which node 2 stands, may have a label inside a start: it is a first node, and clear behind each start
pub first_node_lies_inside : (parent_from 2 (facts_of one_below) 2 ≡ Some 0)
    × (is_inside 5 3 (facts_of one_below) 0 ≡ true)
first_node_lies_inside = (refl, refl)

pub first_node_is_clear : block_of 2 (facts_of (start 1 5 3 ++ Says (Has 0 5) ∷ [])) 0 ≡ Clear
first_node_is_clear = refl

-- ---- where the start clashes, or the run says something of the node in question

pub is_none_for_a_clash : ¬ IsBeginning context 1 2 3 run
is_none_for_a_clash h = h.start_is_clear (plain_names 1 2 3 11 (lit< tt) refl refl refl refl)

pub is_none_where_it_speaks : ¬ IsBeginning context 1 1 3 ((start 1 0 0 ++ Says (Has 1 2) ∷ []) ∷ start 1 0 0 ∷ [])
is_none_where_it_speaks h = (let k = h.says_nothing_there 2 refl in cc)
