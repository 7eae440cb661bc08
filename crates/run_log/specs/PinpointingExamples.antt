-- Worked logs of the search for justifications and repairs: for each thing that an honest log has to be, one that is so
-- and one that is not.
use Rattle.std.specs.Prelude.{◌≡◌, ℕ, zero, suc, ◌<◌, Bool, true, false, not, ◌&&◌, nat_eq, List, [], ◌∷◌, ◌++◌}
use Rattle.std.specs.Prelude.{slice_index_or, Contains, if◌then◌else◌, refl}
use Rattle.std.proofs.Common.{lit<, ap, sym, subst, ◌∙◌, arith}
use Rattle.std.proofs.lemmas.Bool.Decides.{nat_tests}
use Rattle.std.proofs.lemmas.List.Elements.{All-nil, All-cons, All-head}
use Rattle.std.specs.FinSet as set
use Rattle.std.specs.Ordering.{nat_cmp}
use Rattle.std.specs.Cmp.{nat_cmp_total}
use Rattle.std.specs.List.{list_any, flat_map}
use Rattle.pinpointing_specs.specs.NumberSets.{NumberSet, IsPart}
use Rattle.pinpointing_specs.specs.Sets.{Limited}
use Rattle.pinpointing_specs.specs.Nodes.{IsChild}
use Rattle.shq_terms.specs.Concept.{name}
use Rattle.shq_terms.specs.Listed.{Listed}
use Rattle.shq_terms.specs.declared.axioms.Axiom.{Axiom}
use Rattle.shq_terms.specs.declared.axioms.Axiom.TheVariants.{SubClassOf, Transitive, Member}
use Rattle.shq_terms.specs.declared.axioms.Numbered.{Numbered}
use Rattle.shq_terms.specs.declared.axioms.Query.{Query}
use Rattle.pinpointing_specs.specs.Below.{all_below}
use Rattle.pinpointing_specs.specs.Truth.{Interpretation, implies, Entails}
use Rattle.pinpointing_specs.proofs.Below.{all_below-false}
use Rattle.pinpointing_specs.specs.LocalModule.{axioms_in_set, module_names, IsClosed, IsLocalModule, FollowsFrom}
use Rattle.pinpointing_specs.specs.Signature.{is_among, axiom_names, query_names}
use Rattle.pinpointing_specs.specs.Local.{is_local}
use Rattle.run_log.specs.declared.entry.Entry.{Entry}
use Rattle.run_log.specs.declared.entry.Entry.TheVariants.{Test, Node}
use Rattle.run_log.specs.declared.entry.TestEnd.TheVariants.{Yes, No}
use Rattle.run_log.specs.Entries.{AnswersQuery}
use Rattle.run_log.specs.HonestLog.{AreTestsOf, IsTestOf, AsksNoAnswer, IsJustificationSet, AreTreeNodes}
use Rattle.run_log.specs.HonestLog.{AsksFewPerNode, IsTestIn, StaysInModule}
use Rattle.run_log.specs.LogExamples.{inclusion, sup_of}

-- the set of these numbers up to n
abbrev pub numbers : ℕ → List ℕ → Limited
numbers n ks = record { limit = n; members = set.from_list ks }

-- ---- the query

abbrev yes_of_one : Entry
yes_of_one = Test (numbers 1 (1 ∷ [])) (inclusion 0 1) 4 (Yes (numbers 1 (1 ∷ [])))

pub tests_of_the_query : AreTestsOf (inclusion 0 1) (yes_of_one ∷ [])
tests_of_the_query = All-cons (IsTestOf (inclusion 0 1)) yes_of_one [] refl (All-nil (IsTestOf (inclusion 0 1)))

pub no_tests_of_another : ¬ AreTestsOf (inclusion 0 2) (yes_of_one ∷ [])
no_tests_of_another h =
    let k : name 1 ≡ name 2 = ap sup_of (All-head (IsTestOf (inclusion 0 2)) yes_of_one [] h) in
    let m : ◌≡◌ {A = ℕ} 1 2 = cc in
    omega (arith, m)

-- ---- answers that are known

-- the axioms 1 and 2 are not enough; then the axioms 1 and 3 are tested, or axiom 2 alone
abbrev not_one_two : Entry
not_one_two = Test (numbers 3 (1 ∷ 2 ∷ [])) (inclusion 0 1) 4 No

abbrev one_three : Entry
one_three = Test (numbers 3 (1 ∷ 3 ∷ [])) (inclusion 0 1) 4 (Yes (numbers 3 (3 ∷ [])))

abbrev not_two : Entry
not_two = Test (numbers 3 (2 ∷ [])) (inclusion 0 1) 4 No

abbrev all_three : Entry
all_three = Test (numbers 3 (1 ∷ 2 ∷ 3 ∷ [])) (inclusion 0 1) 4 (Yes (numbers 3 (3 ∷ [])))

-- a set that has 3 is no part of one that lacks it
three_is_more : ¬ IsPart (set.from_list (1 ∷ 3 ∷ [])) (set.from_list (1 ∷ 2 ∷ []))
three_is_more h =
    let k : false ≡ true =
    sym (set.contains-from_list_nat (1 ∷ 2 ∷ []) 3) ∙ h 3 (set.contains-from_list_nat (1 ∷ 3 ∷ []) 3) in
    cc

not_answered : (s : Limited) (e : Entry) → s ≡ numbers 3 (1 ∷ 3 ∷ []) → not_one_two ≡ e
    → ¬ AnswersQuery e s (inclusion 0 1)
not_answered s e is at h =
    let k : AnswersQuery not_one_two s (inclusion 0 1) =
    subst (λ (x : Entry). AnswersQuery x s (inclusion 0 1)) (sym at) h in
    let m : IsPart s.members (set.from_list (1 ∷ 2 ∷ [])) = k.1 in
    three_is_more (subst (λ (x : Limited). IsPart x.members (set.from_list (1 ∷ 2 ∷ []))) is m)

pub asks_what_is_open : AsksNoAnswer (not_one_two ∷ one_three ∷ [])
asks_what_is_open zero s q steps e at (x, (k, lt, is), answers) = omega (arith, lt)
asks_what_is_open (suc zero) s q steps e at (x, (zero, lt, is), answers) =
    let a : s ≡ numbers 3 (1 ∷ 3 ∷ []) = cc in
    let b : q ≡ inclusion 0 1 = cc in
    not_answered s x a is (subst (λ (p : Query). AnswersQuery x s p) b answers)
asks_what_is_open (suc zero) s q steps e at (x, (suc k, lt, is), answers) = omega (arith, lt)
asks_what_is_open (suc (suc place)) s q steps e at answered = cc

-- what is part of axioms that are not enough is not enough
pub asks_a_part : ¬ AsksNoAnswer (not_one_two ∷ not_two ∷ [])
asks_a_part h =
    h 1 (numbers 3 (2 ∷ [])) (inclusion 0 1) 4 No refl (not_one_two, (0, lit< tt, refl), (refl, two_is_part))
  where
    two_is_part : IsPart (set.from_list (2 ∷ [])) (set.from_list (1 ∷ 2 ∷ []))
    two_is_part k is =
        let a : list_any (λ y. nat_eq y k) (2 ∷ []) ≡ true = sym (set.contains-from_list_nat (2 ∷ []) k) ∙ is in
        let b : list_any (λ y. nat_eq y k) (1 ∷ 2 ∷ []) ≡ true = grind (arith, nat_tests) in
        set.contains-from_list_nat (1 ∷ 2 ∷ []) k ∙ b

-- and what has axioms that are enough is enough
pub asks_more : ¬ AsksNoAnswer (one_three ∷ all_three ∷ [])
asks_more h = h 1 (numbers 3 (1 ∷ 2 ∷ 3 ∷ [])) (inclusion 0 1) 4 (Yes (numbers 3 (3 ∷ []))) refl
    (one_three, (0, lit< tt, refl), (refl, three_is_part))
  where
    three_is_part : IsPart (set.from_list (3 ∷ [])) (set.from_list (1 ∷ 2 ∷ 3 ∷ []))
    three_is_part k is =
        let a : list_any (λ y. nat_eq y k) (3 ∷ []) ≡ true = sym (set.contains-from_list_nat (3 ∷ []) k) ∙ is in
        let b : list_any (λ y. nat_eq y k) (1 ∷ 2 ∷ 3 ∷ []) ≡ true = grind (arith, nat_tests) in
        set.contains-from_list_nat (1 ∷ 2 ∷ 3 ∷ []) k ∙ b

-- ---- nodes

-- one axiom: class 0 is included in class 1
abbrev pub one_axiom : Listed
one_axiom = record {
  axioms = record { «axiom» = SubClassOf (name 0) (name 1); line = 1 } ∷ [];
  classes = (65 ∷ []) ∷ (66 ∷ []) ∷ [];
  roles = [];
  individuals = [];
}

with_it : (s : NumberSet) → set.contains s 1 ≡ true
    → axioms_in_set s one_axiom.axioms ≡ SubClassOf (name 0) (name 1) ∷ []
with_it s h = ap (λ (b : Bool). if b then SubClassOf (name 0) (name 1) ∷ [] else []) h

without_it : (s : NumberSet) → set.contains s 1 ≡ false → axioms_in_set s one_axiom.axioms ≡ []
without_it s h = ap (λ (b : Bool). if b then SubClassOf (name 0) (name 1) ∷ [] else []) h

refuted : (a b : Bool) → (a && not b) ≡ true → implies a b ≡ false
refuted true true h = cc
refuted true false h = refl
refuted false b h = cc

pub is_false : (b : Bool) → ¬ (b ≡ true) → b ≡ false
is_false true h = absurd (h refl)
is_false false h = refl

it_is_enough : Entails (SubClassOf (name 0) (name 1) ∷ []) (inclusion 0 1)
it_is_enough i some placed meets x lt = is_false (i.in_class 0 x && not (i.in_class 1 x)) (λ h.
    let k : all_below i.size (λ y. implies (i.in_class 0 y) (i.in_class 1 y)) ≡ false =
    all_below-false i.size (λ y. implies (i.in_class 0 y) (i.in_class 1 y)) x lt
    (refuted (i.in_class 0 x) (i.in_class 1 x) h) in
    let m : (false && true) ≡ true = ap (λ (b : Bool). b && true) (sym k) ∙ meets in
    cc)

-- one element, in class 0 alone
abbrev in_zero : Interpretation
in_zero = record { size = 1; in_class = λ a x. nat_eq a 0; in_role = λ r x y. false; individual = λ a. 0 }

none_is_not_enough : ¬ Entails [] (inclusion 0 1)
none_is_not_enough h = let k : true ≡ false = h in_zero (omega arith) (λ a. lit< tt) refl 0 (lit< tt) in cc

abbrev the_first : NumberSet
the_first = set.from_list (1 ∷ [])

is_first : (k : ℕ) → set.contains the_first k ≡ true → k ≡ 1
is_first k h =
    let a : list_any (λ y. nat_eq y k) (1 ∷ []) ≡ true = sym (set.contains-from_list_nat (1 ∷ []) k) ∙ h in
    grind (arith, nat_tests)

abbrev without_first : NumberSet
without_first = set.remove the_first 1

not_first : set.contains without_first 1 ≡ false
not_first = set.contains-remove nat_cmp_total the_first 1 1

is_needed : (k : ℕ) → k ≡ 1 → ¬ FollowsFrom one_axiom.axioms (inclusion 0 1) (set.remove the_first k)
is_needed k e h =
    let follows : FollowsFrom one_axiom.axioms (inclusion 0 1) without_first =
    subst (λ (m : ℕ). FollowsFrom one_axiom.axioms (inclusion 0 1) (set.remove the_first m)) e h in
    none_is_not_enough
    (subst (λ (as_ : List Axiom). Entails as_ (inclusion 0 1)) (without_it without_first not_first) follows)

pub is_justification : IsJustificationSet one_axiom (inclusion 0 1) (numbers 1 (1 ∷ []))
is_justification = record {
  limit_is = refl;
  is_one = record {
    within = λ k h. let e : k ≡ 1 = is_first k h in (omega arith, omega arith);
    yes_set =
        subst (λ (as_ : List Axiom). Entails as_ (inclusion 0 1))
        (sym (with_it the_first (set.contains-from_list_nat (1 ∷ []) 1))) it_is_enough;
    needed = λ k h. is_needed k (is_first k h);
  };
}

-- the empty set, and with it what it takes of the one justification
abbrev two_nodes : List Entry
two_nodes = Node (numbers 1 []) ∷ Node (numbers 1 (1 ∷ [])) ∷ []

abbrev two_sets : List Limited
two_sets = numbers 1 [] ∷ numbers 1 (1 ∷ []) ∷ []

empty_is_not_first : ¬ (numbers 1 [] ≡ numbers 1 (1 ∷ []))
empty_is_not_first h =
    let k : false ≡ true =
    sym (set.contains-empty nat_cmp 1) ∙ ap (λ (s : Limited). set.contains s.members 1) h
    ∙ set.contains-from_list_nat (1 ∷ []) 1 in
    cc

two_differ : (i j : ℕ) (d : Limited) → i < j → j < 2 → ¬ (slice_index_or two_sets i d ≡ slice_index_or two_sets j d)
two_differ i zero d lt mt = omega (arith, lt)
two_differ zero (suc zero) d lt mt = empty_is_not_first
two_differ (suc i) (suc zero) d lt mt = omega (arith, lt)
two_differ i (suc (suc j)) d lt mt = omega (arith, mt)

first_is_child : IsChild (numbers 1 []) (numbers 1 (1 ∷ [])) (numbers 1 (1 ∷ []))
first_is_child = record {
  apart = λ k h. set.contains-empty nat_cmp k;
  number = 1;
  of_label = set.contains-from_list_nat (1 ∷ []) 1;
  grown = refl;
}

each_has_parent : (k : ℕ) (d : Limited) → 0 < k → k < 2
    → (i : ℕ) × (i < k) × Contains (numbers 1 (1 ∷ []) ∷ []) (numbers 1 (1 ∷ []))
    × IsChild (slice_index_or two_sets i d) (numbers 1 (1 ∷ [])) (slice_index_or two_sets k d)
each_has_parent zero d lt mt = absurd (omega (arith, lt))
each_has_parent (suc zero) d lt mt = (0, lit< tt, (0, lit< tt, refl), first_is_child)
each_has_parent (suc (suc k)) d lt mt = absurd (omega (arith, mt))

pub are_tree_nodes : AreTreeNodes one_axiom (inclusion 0 1) two_nodes
are_tree_nodes = record {
  labels = numbers 1 (1 ∷ []) ∷ [];
  justifications =
      All-cons (IsJustificationSet one_axiom (inclusion 0 1)) (numbers 1 (1 ∷ [])) [] is_justification
      (All-nil (IsJustificationSet one_axiom (inclusion 0 1)));
  nodes = (λ i. numbers 1 (1 ∷ []), record { distinct = two_differ; root = λ d lt. refl; parent = each_has_parent });
}

-- the first node is the empty set
pub are_no_tree_nodes : ¬ AreTreeNodes one_axiom (inclusion 0 1) (Node (numbers 1 (1 ∷ [])) ∷ [])
are_no_tree_nodes h =
    let e : the_first ≡ set.empty = h.nodes.1.root (numbers 1 []) (lit< tt) in
    let k : true ≡ false =
    sym (set.contains-from_list_nat (1 ∷ []) 1) ∙ ap (λ (s : NumberSet). set.contains s 1) e
    ∙ set.contains-empty nat_cmp 1 in
    cc

-- ---- how many tests

pub asks_twice_at_a_node : AsksFewPerNode one_axiom (Node (numbers 1 []) ∷ not_two ∷ not_two ∷ [])
asks_twice_at_a_node = omega arith

pub asks_thrice_at_a_node : ¬ AsksFewPerNode one_axiom (Node (numbers 1 []) ∷ not_two ∷ not_two ∷ not_two ∷ [])
asks_thrice_at_a_node h = omega (arith, h)

-- ---- the local module

-- one axiom that has nothing to do with the query: role 0 is transitive
abbrev apart_axiom : Listed
apart_axiom = record {
  axioms = record { «axiom» = Transitive 0; line = 1 } ∷ [];
  classes = (65 ∷ []) ∷ (66 ∷ []) ∷ [];
  roles = (82 ∷ []) ∷ [];
  individuals = [];
}

empty_is_closed : IsClosed apart_axiom.axioms (inclusion 0 1) set.empty
empty_is_closed zero a at out =
    let e : record { «axiom» = Transitive 0; line = 1 } ≡ a = cc in
    let k : is_local (is_among (module_names apart_axiom.axioms (inclusion 0 1) set.empty)) (Transitive 0) ≡ false =
    ap (λ (n : Numbered). is_local (is_among (module_names apart_axiom.axioms (inclusion 0 1) set.empty)) n.axiom) e
    ∙ out in
    let m : true ≡ false = sym empty_is_local ∙ k in
    cc
  where
    empty_is_local : is_local (is_among (module_names apart_axiom.axioms (inclusion 0 1) set.empty)) (Transitive 0)
        ≡ true
    empty_is_local =
        ap (λ (b : Bool). is_local
        (is_among (query_names (inclusion 0 1) ++ flat_map axiom_names (if b then Transitive 0 ∷ [] else [])))
        (Transitive 0))
        (set.contains-empty nat_cmp 1)
empty_is_closed (suc place) a at out = cc

empty_is_module : IsLocalModule apart_axiom.axioms (inclusion 0 1) set.empty
empty_is_module = record {
  within = λ k h. (let m : false ≡ true = sym (set.contains-empty nat_cmp k) ∙ h in cc);
  closed = empty_is_closed;
  least = λ t closed k h. (let m : false ≡ true = sym (set.contains-empty nat_cmp k) ∙ h in cc);
}

pub stays_in_module : StaysInModule apart_axiom (inclusion 0 1) (Test (numbers 1 []) (inclusion 0 1) 4 No ∷ [])
stays_in_module = record {
  local_part = set.empty;
  is_module = empty_is_module;
  within =
      All-cons (IsTestIn set.empty) (Test (numbers 1 []) (inclusion 0 1) 4 No) [] (λ k h. h)
      (All-nil (IsTestIn set.empty));
}

pub leaves_module : ¬ StaysInModule apart_axiom (inclusion 0 1) (Test (numbers 1 (1 ∷ [])) (inclusion 0 1) 4 No ∷ [])
leaves_module h =
    let in_module : set.contains h.local_part 1 ≡ true =
    All-head (IsTestIn h.local_part) (Test (numbers 1 (1 ∷ [])) (inclusion 0 1) 4 No) [] h.within 1
    (set.contains-from_list_nat (1 ∷ []) 1) in
    let k : false ≡ true =
    sym (set.contains-empty nat_cmp 1) ∙ h.is_module.least set.empty empty_is_closed 1 in_module in
    cc

-- an axiom that has no name of the query either: an individual is in class 2
abbrev one_assertion : Listed
one_assertion =
    record {
      axioms = record { «axiom» = Member (name 2) 0; line = 1 } ∷ [];
      classes = (65 ∷ []) ∷ (66 ∷ []) ∷ (67 ∷ []) ∷ [];
      roles = [];
      individuals = (97 ∷ []) ∷ [];
    }

pub assertion_in_module : (m : NumberSet) → IsLocalModule one_assertion.axioms (inclusion 0 1) m
    → set.contains m 1 ≡ true
assertion_in_module m is = is.closed 0 (record { «axiom» = Member (name 2) 0; line = 1 }) refl refl
