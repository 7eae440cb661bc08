-- Worked examples. The first run is for class 10, over the axiom that class 10 is in class 11: the row gives node 0
-- class 11. The table's numbers are: 0 top, 1 class 10, 2 class 11, 3 the complement of class 11.
use Rattle.std.specs.Prelude.{◌≡◌, ℕ, zero, suc, Bool, true, false, ◌==◌, ◌&&◌, ◌||◌, List, [], ◌∷◌, ◌++◌, None}
use Rattle.std.specs.Prelude.{refl, All}
use Rattle.std.proofs.Common.{lit<, lit≤, ap, sym, subst, ◌∙◌, arith, inl, inr}
use Rattle.std.specs.List.{list_any}
use Rattle.std.proofs.lemmas.Bool.{eqb-true, or_cases}
use Rattle.calculus_specs.specs.Concept.{name as class}
use Rattle.calculus_specs.specs.Shape.{Shape, shape_of}
use Rattle.calculus_specs.specs.Shape.Shape.{top, name, not_name, union, some_of, at_most}
use Rattle.calculus_specs.specs.Rows.{Row, inclusion_of}
use Rattle.calculus_specs.specs.Rows.Trigger.{names}
use Rattle.calculus_specs.specs.declared.facts.Fact.TheVariants.{Has, Edge, Same}
use Rattle.calculus_specs.specs.State.{has}
use Rattle.tableau_specs.specs.declared.Item.{Item}
use Rattle.tableau_specs.specs.declared.Branch.TheVariants.{Or}
use Rattle.tableau_specs.specs.declared.Item.TheVariants.{Fact as Says, Mark}
use Rattle.tableau_specs.specs.Items.{facts_of}
use Rattle.tableau_specs.specs.Clash.IsPlainClash.{plain_bottom, plain_names, plain_most, plain_differ}
use Rattle.tableau_specs.specs.Steps.{SearchContext, HasPlainClash}
use Rattle.tableau_specs.specs.Steps.Adds.{by_row}
use Rattle.tableau_specs.specs.Steps.IsLegal.{add}
use Rattle.tableau_specs.specs.Reached.{start}
use Rattle.tableau_specs.specs.StepExamples.{IsPlain}
use Rattle.search_laws.specs.Runs.{IsRun, was_ever, puts_at, HasItsOwn, SetsApart, asked_for_blocks, LeavesOut}
use Rattle.search_laws.specs.Runs.{LeavesOutAt}

-- ---- the run for class 10

abbrev table : List Shape
table = top ∷ name 10 ∷ name 11 ∷ not_name 11 ∷ []

abbrev row : Row
row = record { axiom_number = 1; part_number = 1; trigger = names (1 ∷ []); concept = 2 }

abbrev context : SearchContext
context = record {
  theory = record {
    parts = record { axiom_number = 1; part_number = 1; part = inclusion_of (class 10) (class 11) } ∷ [];
    below = λ r s. r == s;
    is_transitive = λ r. false;
  };
  table = table;
  rows = row ∷ [];
  first = 1;
  fact_of = λ a p. None;
}

abbrev first : List Item
first = start 0 1 0

abbrev second : List Item
second = first ++ Says (Has 0 2) ∷ []

abbrev run : List (List Item)
run = second ∷ first ∷ []

plain_each : (c : ℕ) → IsPlain (shape_of table c)
plain_each zero = tt
plain_each (suc zero) = tt
plain_each (suc (suc zero)) = tt
plain_each (suc (suc (suc zero))) = tt
plain_each (suc (suc (suc (suc c)))) = tt

-- number 3 is the one complement, and node 0 does not have it
complement_is_three : (c a : ℕ) → shape_of table c ≡ not_name a → c ≡ 3
complement_is_three zero a e = cc
complement_is_three (suc zero) a e = cc
complement_is_three (suc (suc zero)) a e = cc
complement_is_three (suc (suc (suc zero))) a e = refl
complement_is_three (suc (suc (suc (suc c)))) a e = cc

no_plain_clash : ¬ HasPlainClash context first
no_plain_clash (plain_bottom x c lt h sh) = subst IsPlain sh (plain_each c)
no_plain_clash (plain_names x c d a lt h sh g th) =
    let k : d ≡ 3 = complement_is_three d a th in
    let z : x ≡ 0 = omega (arith, lt) in
    let f : has (facts_of first) 0 3 ≡ true =
    ap (λ (y : ℕ). has (facts_of first) y 3) (sym z) ∙ ap (has (facts_of first) x) (sym k) ∙ g in
    cc
no_plain_clash (plain_most x c n s e lt h sh more every) = subst IsPlain sh (plain_each c)
no_plain_clash (plain_differ y z lt mt apart one) = cc

pub is_run : IsRun context (start 0 1 0) run
is_run = (add 0 2 no_plain_clash (by_row 0 row (lit< tt) (0, lit< tt, refl) refl) refl, refl)

-- it gives node 0 class 11, and shows nothing of it: the same steps of a search whether class 10 is in class 11 end in
-- a clash
pub says_nothing_of_eleven : ¬ LeavesOut 1 0 table run 11
says_nothing_of_eleven h = h.class_is_not_there 2 refl refl

-- whether the shape speaks of class 12
abbrev is_of_twelve : Shape → Bool
is_of_twelve (name a) = a == 12
is_of_twelve (not_name a) = a == 12
is_of_twelve _ = false

none_of_twelve : (c : ℕ) → is_of_twelve (shape_of table c) ≡ false
none_of_twelve zero = refl
none_of_twelve (suc zero) = refl
none_of_twelve (suc (suc zero)) = refl
none_of_twelve (suc (suc (suc zero))) = refl
none_of_twelve (suc (suc (suc (suc c)))) = refl

is_not_twelve : (c : ℕ) (s : Shape) → is_of_twelve s ≡ true → ¬ (shape_of table c ≡ s)
is_not_twelve c s is e =
    (let k : is_of_twelve (shape_of table c) ≡ true = ap is_of_twelve e ∙ is in let l = none_of_twelve c in cc)

-- of class 12, which has no number, it shows that class 10 is not in it
pub leaves_out_twelve : LeavesOut 1 0 table run 12
leaves_out_twelve = record {
  class_is_not_there = λ c ever. is_not_twelve c (name 12) refl;
  unions_there_lack_complement = λ c d parts ever sh part. is_not_twelve d (not_name 12) refl;
  complement_is_not_there = λ c ever. is_not_twelve c (not_name 12) refl;
  complement_is_apart = λ k d lt x c high put sh. absurd (is_not_twelve c (not_name 12) refl sh);
}

-- ---- the complement at another node

-- Here the numbers are: 0 top, 1 class 10, 2 class 13, 3 some successor by role 7 in class 13, 4 the complement of
-- class 11. Node 0 has a successor, which is made in class 13, and is in the complement of class 11.
abbrev wider : List Shape
wider = top ∷ name 10 ∷ name 13 ∷ some_of 7 2 ∷ not_name 11 ∷ []

abbrev asking : List Item
asking = start 0 1 0 ++ Says (Has 0 3) ∷ []

abbrev made : List Item
made = asking ++ Says (Edge 7 0 1) ∷ Says (Has 1 2) ∷ []

abbrev apart : List (List Item)
apart = (made ++ Says (Has 1 4) ∷ []) ∷ made ∷ asking ∷ start 0 1 0 ∷ []

complement_is_four : (c : ℕ) → shape_of wider c ≡ not_name 11 → c ≡ 4
complement_is_four zero e = cc
complement_is_four (suc zero) e = cc
complement_is_four (suc (suc zero)) e = cc
complement_is_four (suc (suc (suc zero))) e = cc
complement_is_four (suc (suc (suc (suc zero)))) e = refl
complement_is_four (suc (suc (suc (suc (suc c))))) e = cc

no_eleven : (c : ℕ) → ¬ (shape_of wider c ≡ name 11)
no_eleven zero e = cc
no_eleven (suc zero) e = cc
no_eleven (suc (suc zero)) e = cc
no_eleven (suc (suc (suc zero))) e = cc
no_eleven (suc (suc (suc (suc zero)))) e = cc
no_eleven (suc (suc (suc (suc (suc c))))) e = cc

no_union : (c : ℕ) (parts : List ℕ) → ¬ (shape_of wider c ≡ union parts)
no_union zero parts e = cc
no_union (suc zero) parts e = cc
no_union (suc (suc zero)) parts e = cc
no_union (suc (suc (suc zero))) parts e = cc
no_union (suc (suc (suc (suc zero)))) parts e = cc
no_union (suc (suc (suc (suc (suc c))))) parts e = cc

-- the successor alone is given number 4
is_last : (p q : Bool)
    → ((p && false) || ((p && false) || ((p && false) || (false || ((q && false) || ((q && true) || false)))))) ≡ q
is_last true true = refl
is_last true false = refl
is_last false true = refl
is_last false false = refl

no_third : (p : Bool) → ((p && false) || ((p && false) || ((p && false) || false))) ≡ false
no_third true = refl
no_third false = refl

no_second : (p : Bool) → ((p && false) || ((p && false) || false)) ≡ false
no_second true = refl
no_second false = refl

is_successor : (x : ℕ) → list_any (puts_at x 4) (facts_of (made ++ Says (Has 1 4) ∷ [])) ≡ true → 1 ≡ x
is_successor x put = eqb-true 1 x (sym (is_last (0 == x) (1 == x)) ∙ put)

-- no number but 4 is the complement
never : (trail : List Item) (x c : ℕ) → list_any (puts_at x c) (facts_of trail) ≡ true
    → shape_of wider c ≡ not_name 11 → ¬ (list_any (puts_at x 4) (facts_of trail) ≡ false)
never trail x c put sh none =
    (let k = ap (λ (n : ℕ). list_any (puts_at x n) (facts_of trail)) (complement_is_four c sh) in cc)

-- number 2 is its own
own_concept : HasItsOwn 0 apart (made ++ Says (Has 1 4) ∷ []) 1 4
own_concept = record {
  concept = 2;
  holds = refl;
  is_never_there = refl;
  is_not_top = λ e. cc;
  is_another = λ e. cc;
}

-- of class 11 it shows that class 10 is not in it
pub leaves_out_eleven : LeavesOut 1 0 wider apart 11
leaves_out_eleven = record {
  class_is_not_there = λ c ever. no_eleven c;
  unions_there_lack_complement = λ c d parts ever sh. absurd (no_union c parts sh);
  complement_is_not_there = λ c ever sh. (let e = complement_is_four c sh in
      let k : was_ever (puts_at 0 c) apart ≡ false = ap (λ (n : ℕ). was_ever (puts_at 0 n) apart) e in
      cc);
  complement_is_apart = each;
}
  where
    each : All (SetsApart 1 0 wider apart 11) ((made ++ Says (Has 1 4) ∷ []) ∷ asking ∷ [])
    each zero d lt x c high put sh =
        let last : List Item = made ++ Says (Has 1 4) ∷ [] in
        let e = complement_is_four c sh in
        let at = is_successor x (ap (λ (n : ℕ). list_any (puts_at x n) (facts_of last)) (sym e) ∙ put) in
        subst (λ (y : ℕ). HasItsOwn 0 apart last y c) at (subst (HasItsOwn 0 apart last 1) (sym e) own_concept)
    each (suc zero) d lt x c high put sh = absurd (never asking x c put sh (no_third (0 == x)))
    each (suc (suc k)) d lt x c high put sh = absurd (omega (arith, lt))

-- where node 0 is in class 13 too, or the successor has no other concept, it shows nothing of class 11: with the
-- complement node 0 may block the successor
abbrev shared : List (List Item)
shared = (made ++ Says (Has 1 4) ∷ Says (Has 0 2) ∷ []) ∷ []

pub says_nothing_of_shared : ¬ LeavesOut 1 0 wider shared 11
says_nothing_of_shared h =
    let own = h.complement_is_apart 0 [] (lit< tt) 1 4 (lit≤ tt) refl refl in
    let c = own.concept in
    elim (or_cases (c == 0) ((2 == c) || ((4 == c) || false)) own.holds) [
      | inl none ↦ own.is_not_top (eqb-true c 0 none)
      | inr some ↦ elim (or_cases (2 == c) ((4 == c) || false) some) [
        | inl two ↦
            (let k : true ≡ was_ever (puts_at 0 c) shared =
            ap (λ (n : ℕ). was_ever (puts_at 0 n) shared) (eqb-true 2 c two) in
            let l = own.is_never_there in
            cc)
        | inr last ↦ elim (or_cases (4 == c) false last) [
          | inl four ↦ own.is_another (sym (eqb-true 4 c four))
          | inr no' ↦ absurd (cc)
        ]
      ]
    ]

-- node 1 by number 4 alone
abbrev bare : List Item
bare = start 0 1 0 ++ Says (Edge 7 0 1) ∷ Says (Has 1 4) ∷ []

bare_lacks_own : (run : List (List Item)) → ¬ HasItsOwn 0 run bare 1 4
bare_lacks_own run own =
    let c = own.concept in
    elim (or_cases (c == 0) ((4 == c) || false) own.holds) [
      | inl none ↦ own.is_not_top (eqb-true c 0 none)
      | inr some ↦ elim (or_cases (4 == c) false some) [
        | inl four ↦ own.is_another (sym (eqb-true 4 c four))
        | inr no' ↦ absurd (cc)
      ]
    ]

pub says_nothing_of_bare : ¬ LeavesOut 1 0 wider (bare ∷ []) 11
says_nothing_of_bare h = bare_lacks_own (bare ∷ []) (h.complement_is_apart 0 [] (lit< tt) 1 4 (lit≤ tt) refl refl)

-- ---- when the other concept comes

-- the successor may get the other concept after the complement, as long as no node is made in between
abbrev in_time : List (List Item)
in_time = (bare ++ Says (Has 1 2) ∷ []) ∷ bare ∷ start 0 1 0 ∷ []

pub blocks_of_in_time : asked_for_blocks 1 in_time ≡ (bare ++ Says (Has 1 2) ∷ []) ∷ start 0 1 0 ∷ []
blocks_of_in_time = refl

-- the successor alone is given number 4, before number 2
is_fourth : (p q : Bool)
    → ((p && false) || ((p && false) || (false || ((q && true) || ((q && false) || false))))) ≡ q
is_fourth true true = refl
is_fourth true false = refl
is_fourth false true = refl
is_fourth false false = refl

own_in_time : HasItsOwn 0 in_time (bare ++ Says (Has 1 2) ∷ []) 1 4
own_in_time = record {
  concept = 2;
  holds = refl;
  is_never_there = refl;
  is_not_top = λ e. cc;
  is_another = λ e. cc;
}

pub leaves_out_in_time : LeavesOut 1 0 wider in_time 11
leaves_out_in_time = record {
  class_is_not_there = λ c ever. no_eleven c;
  unions_there_lack_complement = λ c d parts ever sh. absurd (no_union c parts sh);
  complement_is_not_there = λ c ever sh. (let e = complement_is_four c sh in
      let k : was_ever (puts_at 0 c) in_time ≡ false = ap (λ (n : ℕ). was_ever (puts_at 0 n) in_time) e in
      cc);
  complement_is_apart = each;
}
  where
    each : All (SetsApart 1 0 wider in_time 11) ((bare ++ Says (Has 1 2) ∷ []) ∷ start 0 1 0 ∷ [])
    each zero d lt x c high put sh =
        let last : List Item = bare ++ Says (Has 1 2) ∷ [] in
        let e = complement_is_four c sh in
        let put_four : list_any (puts_at x 4) (facts_of last) ≡ true =
        ap (λ (n : ℕ). list_any (puts_at x n) (facts_of last)) (sym e) ∙ put in
        let at : 1 ≡ x = eqb-true 1 x (sym (is_fourth (0 == x) (1 == x)) ∙ put_four) in
        subst (λ (y : ℕ). HasItsOwn 0 in_time last y c) at (subst (HasItsOwn 0 in_time last 1) (sym e) own_in_time)
    each (suc zero) d lt x c high put sh = absurd (never (start 0 1 0) x c put sh (no_second (0 == x)))
    each (suc (suc k)) d lt x c high put sh = absurd (omega (arith, lt))

-- where another node is made before, the run shows nothing of class 11: with the complement node 0 may block the
-- successor then
abbrev too_late : List (List Item)
too_late =
    (bare ++ Says (Edge 7 0 2) ∷ Says (Has 2 2) ∷ Says (Has 1 2) ∷ [])
    ∷ (bare ++ Says (Edge 7 0 2) ∷ Says (Has 2 2) ∷ [])
    ∷ bare
    ∷ start 0 1 0
    ∷ []

pub says_nothing_too_late : ¬ LeavesOut 1 0 wider too_late 11
says_nothing_too_late h = bare_lacks_own too_late (h.complement_is_apart 1 [] (lit< tt) 1 4 (lit≤ tt) refl refl)

-- ---- an individual, whose node is 0, and which is said to be in class 10

abbrev told : List (List Item)
told = (start 1 0 0 ++ Says (Has 0 1) ∷ []) ∷ start 1 0 0 ∷ []

-- of class 12 it shows that the individual is not in it, and of class 10 nothing
pub leaves_out_of_individual : LeavesOutAt 2 0 table told 12
leaves_out_of_individual = record {
  leaves_out = record {
    class_is_not_there = λ c ever. is_not_twelve c (name 12) refl;
    unions_there_lack_complement = λ c d parts ever sh part. is_not_twelve d (not_name 12) refl;
    complement_is_not_there = λ c ever. is_not_twelve c (not_name 12) refl;
    complement_is_apart = λ k d lt x c high put sh. absurd (is_not_twelve c (not_name 12) refl sh);
  };
  is_never_joined = refl;
  complement_is_no_filler = λ c s e ever is. is_not_twelve e (not_name 12) refl;
  class_is_not_counted = λ c m s e ever sh k. subst IsPlain sh (plain_each c);
}

pub says_nothing_of_ten : ¬ LeavesOutAt 2 0 table told 10
says_nothing_of_ten h = h.leaves_out.class_is_not_there 1 refl refl

-- nor does a run say anything of a node that is one with another, on either side
pub says_nothing_of_joined : (¬ LeavesOutAt 3 0 table ((start 2 0 0 ++ Says (Same 0 1) ∷ []) ∷ start 2 0 0 ∷ []) 12)
    × (¬ LeavesOutAt 3 1 table ((start 2 0 0 ++ Says (Same 0 1) ∷ []) ∷ start 2 0 0 ∷ []) 12)
says_nothing_of_joined = (λ h. (let k = h.is_never_joined in cc), λ h. (let k = h.is_never_joined in cc))

-- nor of a class where successors are asked for in its complement, or counted in it: an edge may lead to the node
pub says_nothing_of_fillers : ¬ LeavesOutAt 3 1 (table ++ some_of 7 3 ∷ [])
    ((start 2 0 0 ++ Says (Has 0 4) ∷ []) ∷ []) 11
says_nothing_of_fillers h = h.complement_is_no_filler 4 7 3 refl refl refl

pub says_nothing_of_counted : ¬ LeavesOutAt 3 1 (table ++ at_most 1 7 2 ∷ [])
    ((start 2 0 0 ++ Says (Has 0 4) ∷ []) ∷ []) 11
says_nothing_of_counted h = h.class_is_not_counted 4 1 7 2 refl refl refl

-- ---- going back

-- node 0 is given class 11 behind a mark, and loses it again: the run remembers it
abbrev marked : List Item
marked = first ++ Mark (record { line = 1; branch = Or 0 4; alternative = 1 }) ∷ Says (Has 0 2) ∷ []

abbrev turned : List Item
turned = first ++ Mark (record { line = 1; branch = Or 0 4; alternative = 2 }) ∷ Says (Has 0 1) ∷ []

pub was_put : was_ever (puts_at 0 2) (turned ∷ marked ∷ first ∷ []) ≡ true
was_put = refl

pub is_gone : list_any (puts_at 0 2) (facts_of turned) ≡ false
is_gone = refl
