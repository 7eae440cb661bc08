-- Worked logs: for each thing that the honest log of a question on individuals has to be, one that is so and one that
-- is not.
use Rattle.std.specs.Prelude.{◌≡◌, ◌<◌, ◌⊎◌, ℕ, zero, suc, Bool, true, false, nat_le, List, [], ◌∷◌, refl, Contains}
use Rattle.std.proofs.Common.{lit<, ap, sym, ◌∙◌, subst, arith, inl, inr}
use Rattle.std.proofs.lemmas.List.Elements.{All-nil, All-cons, All-head}
use Rattle.axiom_sets.specs.Sets.{Limited}
use Rattle.shq_terms.specs.Concept.{top, name}
use Rattle.shq_terms.specs.declared.axioms.On.TheVariants.{Individual}
use Rattle.shq_terms.specs.declared.axioms.Query.{Query}
use Rattle.subsumption.specs.Entry.{Entry}
use Rattle.subsumption.specs.Entry.TheVariants.{Test, Node}
use Rattle.subsumption.specs.TestEnd.TheVariants.{Yes, No}
use Rattle.subsumption.specs.LogExamples.{bare, no_axioms, no_axioms_are_whole, inclusion, inclusion_at_one}
use Rattle.realizer.specs.Instances.{instance_query}
use Rattle.realizer.specs.Places.{Place, class_place, individual_place, left_side, right_side, IsPlaceStep}
use Rattle.realizer.specs.Places.{IsPlaceChain}
use Rattle.realizer.specs.Places.IsPlaceStep.{by_test, in_top, of_bottom}
use Rattle.realizer.specs.Places.IsPlaceChain.{none, onward}
use Rattle.realizer.specs.RealizationLogs.{IsInstanceTest, AreInstanceTests, IsTypingTest, AreTypingTests}
use Rattle.realizer.specs.RealizationLogs.{AsksNoPlaceChain}
use Rattle.realizer.specs.ShownLogs.{HasYes, IsModelledOut, ShowsInstances}

-- ---- which individuals are in a class: class 1 of three, and one individual

abbrev at_one : ℕ → Entry
at_one x = Test no_axioms (instance_query (name x) 0) 4 (Yes no_axioms)

pub is_instance_test : AreInstanceTests bare (name 1) (at_one 1 ∷ [])
is_instance_test =
    All-cons (IsInstanceTest bare (name 1)) (at_one 1) [] (no_axioms_are_whole, (0, lit< tt, refl))
    (All-nil (IsInstanceTest bare (name 1)))

-- another class is not asked about
pub is_of_another_class : ¬ AreInstanceTests bare (name 2) (at_one 1 ∷ [])
is_of_another_class h = refuted (All-head (IsInstanceTest bare (name 2)) (at_one 1) [] h).1
  where
    refuted : ¬ ((a : ℕ) × (a < 1) × (instance_query (name 1) 0 ≡ instance_query (name 2) a))
    refuted (a, lt, same) =
        let k : name 1 ≡ name 2 = ap (λ (q : Query). q.sup) same in let m : ◌≡◌ {A = ℕ} 1 2 = cc in omega (arith, m)

-- nor an individual that is not listed
pub is_of_no_individual : ¬ AreInstanceTests bare (name 1) (Test no_axioms (instance_query (name 1) 1) 4 No ∷ [])
is_of_no_individual h =
    refuted (All-head (IsInstanceTest bare (name 1)) (Test no_axioms (instance_query (name 1) 1) 4 No) [] h).1
  where
    refuted : ¬ ((a : ℕ) × (a < 1) × (instance_query (name 1) 1 ≡ instance_query (name 1) a))
    refuted (a, lt, same) =
        let k : Individual 1 ≡ Individual a = ap (λ (q : Query). q.on) same in
        let m : ◌≡◌ {A = ℕ} 1 a = cc in omega (arith, m, lt)

-- and no node is taken
pub is_no_test : ¬ AreInstanceTests bare (name 1) (Node no_axioms ∷ [])
is_no_test h = All-head (IsInstanceTest bare (name 1)) (Node no_axioms) [] h

-- ---- which classes each individual is in

-- class 0 is part of class 1, and the individual is in class 0
abbrev inclusion_test : Entry
inclusion_test = Test no_axioms (inclusion 0 1) 4 (Yes no_axioms)

abbrev two_kinds : List Entry
two_kinds = inclusion_test ∷ at_one 0 ∷ []

pub are_typing_tests : AreTypingTests bare two_kinds
are_typing_tests =
    All-cons (IsTypingTest bare) inclusion_test (at_one 0 ∷ []) (no_axioms_are_whole, (lit< tt, lit< tt))
    (All-cons (IsTypingTest bare) (at_one 0) [] (no_axioms_are_whole, (lit< tt, refl, lit< tt))
    (All-nil (IsTypingTest bare)))

-- on an individual, the left side is owl:Thing
pub is_inclusion_at_one : ¬ AreTypingTests bare (Test no_axioms (inclusion_at_one 0 1) 4 No ∷ [])
is_inclusion_at_one h =
    let k : name 0 ≡ top = (All-head (IsTypingTest bare) (Test no_axioms (inclusion_at_one 0 1) 4 No) [] h).1.1 in cc

-- and the right side is a listed class
pub is_of_all_things : ¬ AreTypingTests bare (Test no_axioms (instance_query top 0) 4 No ∷ [])
is_of_all_things h = (All-head (IsTypingTest bare) (Test no_axioms (instance_query top 0) 4 No) [] h).1.2

-- ---- chains that begin at the individual

-- it is in class 1 by two steps
pub leads_to_one : IsPlaceChain two_kinds (individual_place 0) (class_place (name 1))
leads_to_one =
    onward (individual_place 0) (class_place (name 0)) (class_place (name 1))
    (by_test no_axioms (instance_query (name 0) 0) 4 no_axioms (1, lit< tt, refl))
    (onward (class_place (name 0)) (class_place (name 1)) (class_place (name 1))
    (by_test no_axioms (inclusion 0 1) 4 no_axioms (0, lit< tt, refl)) (none (class_place (name 1))))

-- so that is not asked any more
pub asks_what_follows : ¬ AsksNoPlaceChain (inclusion_test ∷ at_one 0 ∷ at_one 1 ∷ [])
asks_what_follows h = h 2 no_axioms (instance_query (name 1) 0) 4 (Yes no_axioms) refl leads_to_one

-- what a chain leads to passes each test that no step of it leaves
abbrev pub IsKeptBy : (Place → Bool) → List Entry → Type 0
IsKeptBy p log = (x y : Place) → IsPlaceStep log x y → p x ≡ true → p y ≡ true

pub stays : (p : Place → Bool) (log : List Entry) → IsKeptBy p log → (x y : Place) → IsPlaceChain log x y → p x ≡ true
    → p y ≡ true
stays p log kept x y (none _) h = h
stays p log kept x y (onward _ z _ step rest) h = stays p log kept z y rest (kept x z step h)

-- the individual, class 2 and owl:Thing
abbrev is_there : Place → Bool
is_there (individual_place a) = true
is_there (class_place top) = true
is_there (class_place (name x)) = nat_le 2 x
is_there (class_place c) = false

kept_by_one : IsKeptBy is_there (inclusion_test ∷ at_one 2 ∷ [])
kept_by_one _ _ (by_test s q steps u (zero, lt, is)) h =
    let e : q ≡ inclusion 0 1 = cc in
    let k : is_there (class_place (name 0)) ≡ true = ap (λ (p : Query). is_there (left_side p)) (sym e) ∙ h in
    cc
kept_by_one _ _ (by_test s q steps u (suc zero, lt, is)) h =
    let e : q ≡ instance_query (name 2) 0 = cc in
    ap (λ (p : Query). is_there (right_side p)) e
kept_by_one _ _ (by_test s q steps u (suc (suc k), lt, is)) h = absurd (omega (arith, lt))
kept_by_one _ _ (in_top p) h = refl
kept_by_one _ _ (of_bottom y) h = cc

-- that the individual is in class 2 and class 0 in class 1 says nothing of whether it is in class 0
pub leads_not_to_zero : ¬ IsPlaceChain (inclusion_test ∷ at_one 2 ∷ []) (individual_place 0) (class_place (name 0))
leads_not_to_zero chain =
    let k : is_there (class_place (name 0)) ≡ true =
    stays is_there (inclusion_test ∷ at_one 2 ∷ []) kept_by_one (individual_place 0) (class_place (name 0)) chain
    refl in
    cc

-- class 0 and owl:Thing
abbrev is_class_zero : Place → Bool
is_class_zero (individual_place a) = false
is_class_zero (class_place top) = true
is_class_zero (class_place (name x)) = nat_le x 0
is_class_zero (class_place c) = false

-- an answer on an individual leads from no class to another
kept_by_individual : IsKeptBy is_class_zero (at_one 1 ∷ [])
kept_by_individual _ _ (by_test s q steps u (zero, lt, is)) h =
    let e : q ≡ instance_query (name 1) 0 = cc in
    let k : is_class_zero (individual_place 0) ≡ true = ap (λ (p : Query). is_class_zero (left_side p)) (sym e) ∙ h in
    cc
kept_by_individual _ _ (by_test s q steps u (suc k, lt, is)) h = absurd (omega (arith, lt))
kept_by_individual _ _ (in_top p) h = refl
kept_by_individual _ _ (of_bottom y) h = cc

pub leads_from_no_class : ¬ IsPlaceChain (at_one 1 ∷ []) (class_place (name 0)) (class_place (name 1))
leads_from_no_class chain =
    let k : is_class_zero (class_place (name 1)) ≡ true =
    stays is_class_zero (at_one 1 ∷ []) kept_by_individual (class_place (name 0)) (class_place (name 1)) chain refl in
    cc

-- ---- what a log shows of the individual

-- a yes about class 1 shows that it is in class 1
pub one_yes_shows : ShowsInstances bare (name 1) (at_one 1 ∷ [])
one_yes_shows a la =
    let lt : a < 1 = la in
    let e : ◌≡◌ {A = ℕ} 0 a = omega (arith, lt) in
    subst
    (λ (b : ℕ). HasYes (at_one 1 ∷ []) (instance_query (name 1) b) ⊎ IsModelledOut bare (at_one 1 ∷ []) (name 1) b) e
    (inl (record { tested = no_axioms; steps = 4; enough = no_axioms; is_yes = (0, lit< tt, refl) }))

-- an empty log shows nothing
pub nothing_shows_nothing : ¬ ShowsInstances bare (name 1) []
nothing_shows_nothing h = elim (h 0 (lit< tt))
    [ inl found ↦ omega (arith, found.is_yes.1) | inr out ↦ omega (arith, out.is_no.1) ]

-- and a yes about class 1 shows nothing of class 2
pub another_yes_shows_nothing : ¬ ShowsInstances bare (name 2) (at_one 1 ∷ [])
another_yes_shows_nothing h = elim (h 0 (lit< tt)) [
  | inl found ↦ no_yes found.tested found.enough found.steps found.is_yes
  | inr out ↦ no_no out.tested out.query out.steps out.is_no
]
  where
    no_yes : (s u : Limited) (steps : ℕ) → ¬ Contains (at_one 1 ∷ []) (Test s (instance_query (name 2) 0) steps (Yes u))
    no_yes s u steps (zero, lt, is) =
        let same : instance_query (name 1) 0 ≡ instance_query (name 2) 0 = cc is in
        let k : name 1 ≡ name 2 = ap (λ (q : Query). q.sup) same in
        let m : ◌≡◌ {A = ℕ} 1 2 = cc in
        omega (arith, m)
    no_yes s u steps (suc k, lt, is) = omega (arith, lt)

    no_no : (s : Limited) (q : Query) (steps : ℕ) → ¬ Contains (at_one 1 ∷ []) (Test s q steps No)
    no_no s q steps (zero, lt, is) = cc is
    no_no s q steps (suc k, lt, is) = omega (arith, lt)
