-- Worked logs: for each thing that an honest log has to be, one that is so and one that is not.
use Rattle.std.specs.Prelude.{◌≡◌, ℕ, zero, suc, ◌+◌, Bool, true, false, ◌&&◌, nat_le, List, [], ◌∷◌, Some, slice_get}
use Rattle.std.specs.Prelude.{refl}
use Rattle.std.proofs.Common.{lit<, ap, sym, ◌∙◌, arith}
use Rattle.std.proofs.lemmas.Bool.Decides.{nat_tests}
use Rattle.std.proofs.lemmas.List.Elements.{All-nil, All-cons, All-head}
use Rattle.std.specs.FinSet as set
use Rattle.std.specs.Ordering.{nat_cmp}
use Rattle.pinpointing_specs.specs.Sets.{Limited, IsFull}
use Rattle.shq_terms.specs.Concept.{Concept, top, name}
use Rattle.shq_terms.specs.Listed.{Listed}
use Rattle.shq_terms.specs.declared.axioms.On.{On}
use Rattle.shq_terms.specs.declared.axioms.On.TheVariants.{Any, Individual}
use Rattle.shq_terms.specs.declared.axioms.Query.{Query}
use Rattle.run_log.specs.declared.entry.Entry.{Entry}
use Rattle.run_log.specs.declared.entry.Entry.TheVariants.{Test, Node}
use Rattle.run_log.specs.declared.entry.TestEnd.TheVariants.{Yes, No, Spent}
use Rattle.run_log.specs.Trails.{TrailLists}
use Rattle.run_log.specs.Entries.{spent_of, is_spent}
use Rattle.run_log.specs.HonestLog.{IsWhole, IsWithinBudget, EndsWhenSpent, IsOneTest, AreClassTests, IsClassTest}
use Rattle.run_log.specs.HonestLog.{AsksNothingTwice, IsStep, IsChain, AsksNoChain}
use Rattle.run_log.specs.HonestLog.IsStep.{by_test, in_top, of_bottom}
use Rattle.run_log.specs.HonestLog.IsChain.{none, onward}

-- three classes, an individual, and no axioms
abbrev pub bare : Listed
bare =
    record { axioms = []; classes = (65 ∷ []) ∷ (66 ∷ []) ∷ (67 ∷ []) ∷ []; roles = []; individuals = (97 ∷ []) ∷ [] }

-- the set of no axioms
abbrev pub no_axioms : Limited
no_axioms = record { limit = 0; members = set.empty }

-- the query whether one class is included in another
abbrev pub inclusion : ℕ → ℕ → Query
inclusion a b = record { sub = name a; sup = name b; on = Any }

-- the same, asked of the individual alone
abbrev pub inclusion_at_one : ℕ → ℕ → Query
inclusion_at_one a b = record { sub = name a; sup = name b; on = Individual 0 }

abbrev pub sub_of : Query → Concept
sub_of q = q.sub

-- the right side of a query
abbrev pub sup_of : Query → Concept
sup_of q = q.sup

abbrev pub on_of : Query → On
on_of q = q.on

-- ---- the budget

abbrev five_spent : List Entry
five_spent = Test no_axioms (inclusion 0 1) 4 No ∷ Node no_axioms ∷ []

-- a step takes one, and so does a node
pub spends_five : spent_of five_spent ≡ 5
spends_five = refl

pub is_within_five : IsWithinBudget 5 five_spent
is_within_five = omega arith

pub is_not_within_four : ¬ IsWithinBudget 4 five_spent
is_not_within_four h = omega (arith, h)

-- ---- a test that spent the budget

abbrev no_trail : TrailLists
no_trail = record { items = []; table = [] }

abbrev spent_last : List Entry
spent_last = Test no_axioms (inclusion 0 1) 4 No ∷ Test no_axioms (inclusion 1 0) 3 (Spent no_trail) ∷ []

abbrev spent_first : List Entry
spent_first = Test no_axioms (inclusion 1 0) 3 (Spent no_trail) ∷ Test no_axioms (inclusion 0 1) 4 No ∷ []

-- a test that says so was the last one, and the whole budget was spent
last_place : (place : ℕ) (e : Entry) → slice_get spent_last place ≡ Some e → is_spent e ≡ true → place + 1 ≡ 2
last_place zero e at spent =
    let k : Test no_axioms (inclusion 0 1) 4 No ≡ e = cc in
    let m : is_spent (Test no_axioms (inclusion 0 1) 4 No) ≡ true = ap is_spent k ∙ spent in cc
last_place (suc zero) e at spent = refl
last_place (suc (suc place)) e at spent = cc

pub ends_when_seven_are_spent : EndsWhenSpent 7 spent_last
ends_when_seven_are_spent = record { is_last = last_place; is_whole = λ h. refl }

pub not_while_some_is_left : ¬ EndsWhenSpent 8 spent_last
not_while_some_is_left h = let k : 7 ≡ 8 = h.is_whole refl in omega (arith, k)

pub not_before_the_end : ¬ EndsWhenSpent 7 spent_first
not_before_the_end h =
    let k : 1 ≡ 2 = h.is_last 0 (Test no_axioms (inclusion 1 0) 3 (Spent no_trail)) refl refl in omega (arith, k)

-- ---- one question

no_number : (k : ℕ) → (nat_le 1 k && nat_le k 0) ≡ false
no_number k = grind (arith, nat_tests)

no_axioms_full : IsFull 0 set.empty
no_axioms_full k = set.contains-empty nat_cmp k ∙ sym (no_number k)

pub no_axioms_are_whole : IsWhole bare no_axioms
no_axioms_are_whole = record { limit_is = refl; is_full = no_axioms_full }

pub is_one_test : IsOneTest bare (inclusion 0 1) (Test no_axioms (inclusion 0 1) 4 No ∷ [])
is_one_test = record { asked = no_axioms; steps = 4; ended = No; is_whole = no_axioms_are_whole; is_log = refl }

pub none_is_not_one : ¬ IsOneTest bare (inclusion 0 1) []
none_is_not_one h = let k = h.is_log in cc

pub two_are_not_one : ¬ IsOneTest bare (inclusion 1 0) spent_last
two_are_not_one h = let k = h.is_log in cc

-- ---- classification

-- class 0 is included in class 1, which is included in class 2
abbrev first_test : Entry
first_test = Test no_axioms (inclusion 0 1) 4 (Yes no_axioms)

abbrev second_test : Entry
second_test = Test no_axioms (inclusion 1 2) 4 (Yes no_axioms)

abbrev third_test : Entry
third_test = Test no_axioms (inclusion 0 2) 4 No

abbrev test_at_one : Entry
test_at_one = Test no_axioms (inclusion_at_one 0 1) 4 (Yes no_axioms)

abbrev two_tests : List Entry
two_tests = first_test ∷ second_test ∷ []

abbrev three_tests : List Entry
three_tests = first_test ∷ second_test ∷ third_test ∷ []

zero_is_not_one : ¬ (name 0 ≡ name 1)
zero_is_not_one h = let k : ◌≡◌ {A = ℕ} 0 1 = cc in omega (arith, k)

pub is_class_test : AreClassTests bare (first_test ∷ [])
is_class_test =
    All-cons (IsClassTest bare) first_test [] (no_axioms_are_whole, lit< tt, lit< tt, zero_is_not_one, refl)
    (All-nil (IsClassTest bare))

-- a class and itself are not asked about
pub is_no_class_test : ¬ AreClassTests bare (Test no_axioms (inclusion 0 0) 4 (Yes no_axioms) ∷ [])
is_no_class_test h = (All-head (IsClassTest bare) (Test no_axioms (inclusion 0 0) 4 (Yes no_axioms)) [] h).3 refl

-- nor one that is not listed
pub is_unlisted : ¬ AreClassTests bare (Test no_axioms (inclusion 0 3) 4 No ∷ [])
is_unlisted h = let k = (All-head (IsClassTest bare) (Test no_axioms (inclusion 0 3) 4 No) [] h).2 in omega (arith, k)

-- nor is an individual
pub is_of_individual : ¬ AreClassTests bare (test_at_one ∷ [])
is_of_individual h = let k : Individual 0 ≡ Any = (All-head (IsClassTest bare) test_at_one [] h).4 in cc

pub asks_once : AsksNothingTwice two_tests
asks_once zero (suc zero) s t p q m n e f lt at bt same =
    let a : p ≡ inclusion 0 1 = cc in
    let b : q ≡ inclusion 1 2 = cc in
    zero_is_not_one (ap sub_of (sym a ∙ same ∙ b))
asks_once i zero s t p q m n e f lt at bt same = omega (arith, lt)
asks_once (suc i) (suc zero) s t p q m n e f lt at bt same = omega (arith, lt)
asks_once i (suc (suc j)) s t p q m n e f lt at bt same = cc

pub asks_twice : ¬ AsksNothingTwice (first_test ∷ first_test ∷ [])
asks_twice h =
    h 0 1 no_axioms no_axioms (inclusion 0 1) (inclusion 0 1) 4 4 (Yes no_axioms) (Yes no_axioms) (lit< tt) refl refl
    refl

-- what a chain leads to passes each test that no step of it leaves
abbrev pub IsKeptBy : (Concept → Bool) → List Entry → Type 0
IsKeptBy p log = (x y : Concept) → IsStep log x y → p x ≡ true → p y ≡ true

pub stays : (p : Concept → Bool) (log : List Entry) → IsKeptBy p log → (x y : Concept) → IsChain log x y → p x ≡ true
    → p y ≡ true
stays p log kept x y (none _) h = h
stays p log kept x y (onward _ z _ step rest) h = stays p log kept z y rest (kept x z step h)

-- top, and one class
abbrev pub is_top_or : ℕ → Concept → Bool
is_top_or a top = true
is_top_or a (name b) = nat_le a b && nat_le b a
is_top_or a _ = false

pub none_leaves_zero : IsKeptBy (is_top_or 0) []
none_leaves_zero _ _ (by_test s q steps u any is) h = absurd (omega (arith, is.1))
none_leaves_zero _ _ (in_top x) h = refl
none_leaves_zero _ _ (of_bottom y) h = cc

none_leaves_one : IsKeptBy (is_top_or 1) (first_test ∷ [])
none_leaves_one _ _ (by_test s q steps u any (zero, lt, is)) h =
    let e : q ≡ inclusion 0 1 = cc in
    let k : name 0 ≡ q.sub = ap sub_of (sym e) in let b : is_top_or 1 (name 0) ≡ true = ap (is_top_or 1) k ∙ h in cc
none_leaves_one _ _ (by_test s q steps u any (suc k, lt, is)) h = absurd (omega (arith, lt))
none_leaves_one _ _ (in_top x) h = refl
none_leaves_one _ _ (of_bottom y) h = cc

pub asks_what_is_open : AsksNoChain two_tests
asks_what_is_open zero s q steps e at chain =
    let a : inclusion 0 1 ≡ q = cc in
    let k : name 0 ≡ q.sub = ap sub_of a in
    let m : name 1 ≡ q.sup = ap sup_of a in
    let b : is_top_or 0 q.sup ≡ true =
    stays (is_top_or 0) [] none_leaves_zero q.sub q.sup chain (ap (is_top_or 0) (sym k)) in
    let c : is_top_or 0 (name 1) ≡ true = ap (is_top_or 0) m ∙ b in cc
asks_what_is_open (suc zero) s q steps e at chain =
    let a : inclusion 1 2 ≡ q = cc in
    let k : name 1 ≡ q.sub = ap sub_of a in
    let m : name 2 ≡ q.sup = ap sup_of a in
    let b : is_top_or 1 q.sup ≡ true =
    stays (is_top_or 1) (first_test ∷ []) none_leaves_one q.sub q.sup chain (ap (is_top_or 1) (sym k)) in
    let c : is_top_or 1 (name 2) ≡ true = ap (is_top_or 1) m ∙ b in cc
asks_what_is_open (suc (suc place)) s q steps e at chain = cc

-- whether class 0 is included in class 2 follows from the two tests before
pub asks_what_follows : ¬ AsksNoChain three_tests
asks_what_follows h =
    h 2 no_axioms (inclusion 0 2) 4 No refl
    (onward (name 0) (name 1) (name 2) (by_test no_axioms (inclusion 0 1) 4 no_axioms refl (0, lit< tt, refl))
    (onward (name 1) (name 2) (name 2) (by_test no_axioms (inclusion 1 2) 4 no_axioms refl (1, lit< tt, refl))
    (none (name 2))))

-- a test on an individual leads from no class to another
none_leaves_by_individual : IsKeptBy (is_top_or 0) (test_at_one ∷ [])
none_leaves_by_individual _ _ (by_test s q steps u any (zero, lt, is)) h =
    let e : q ≡ inclusion_at_one 0 1 = cc in
    let k : Individual 0 ≡ Any = ap on_of (sym e) ∙ any in
    cc
none_leaves_by_individual _ _ (by_test s q steps u any (suc k, lt, is)) h = absurd (omega (arith, lt))
none_leaves_by_individual _ _ (in_top x) h = refl
none_leaves_by_individual _ _ (of_bottom y) h = cc

pub no_chain_by_individual : ¬ IsChain (test_at_one ∷ []) (name 0) (name 1)
no_chain_by_individual chain =
    let k : is_top_or 0 (name 1) ≡ true =
    stays (is_top_or 0) (test_at_one ∷ []) none_leaves_by_individual (name 0) (name 1) chain refl in
    cc
