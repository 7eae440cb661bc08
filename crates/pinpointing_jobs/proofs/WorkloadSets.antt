-- From which axioms of a workload its query follows.
use Rattle.std.proofs.Common.{◌≡◌, ◌⊎◌, inl, inr, ℕ, zero, suc, ◌+◌, ◌<◌, ◌≤◌, Bool, true, false, List, [], ◌∷◌, ◌++◌}
use Rattle.std.proofs.Common.{length, map, refl, ap, sym, ◌∙◌, subst, arith, append_assoc}
use Rattle.std.specs.Prelude.{not, ◌&&◌, nat_lt, if◌then◌else◌}
use Rattle.std.specs.List.{list_all}
use Rattle.std.specs.FinSet as set
use Rattle.std.proofs.lemmas.Bool.{and_parts, and_from, cases_Bool}
use Rattle.std.proofs.lemmas.Bool.Decides.{nat_tests}
use Rattle.lane_sieve.specs.Sets.{NumberSet}
use Rattle.shq_terms.specs.Concept.{name, intersection, part, no_parts}
use Rattle.shq_terms.specs.Listed.{Listed}
use Rattle.shq_terms.specs.declared.axioms.Axiom.{Axiom}
use Rattle.shq_terms.specs.declared.axioms.Axiom.TheVariants.{SubClassOf, SubRole}
use Rattle.shq_terms.specs.declared.axioms.Numbered.{Numbered}
use Rattle.shq_terms.specs.declared.axioms.Query.{Query as Asked}
use Rattle.shq_meaning.specs.Below.{all_below}
use Rattle.shq_meaning.specs.Truth.{Interpretation, implies, meets, refutes_at, Entails}
use Rattle.shq_meaning.proofs.Below.{all_below-false}
use Rattle.pinpointing_specs.specs.LocalModule.{axioms_from}
use Rattle.workload.specs.Laws.{IsWorkload, asked as wanted}
use Rattle.workload.specs.WorkloadText.{workload_text}
use Rattle.workload.specs.WorkloadAxioms.{kernel_axioms, group_axioms, workload_axioms, class_a, class_b, class_c}
use Rattle.workload.proofs.Whole.{workloads_are_documents}
use Rattle.job_inputs.specs.Questions.{follows}
use Rattle.job_inputs.proofs.OneReading.{questions}
use Rattle.pinpointing_jobs.specs.Answers.{workload_query}
use Rattle.pinpointing_jobs.specs.WorkloadSets.{HasOneOf, HasOneOfEach, OfWorkloads, FollowsByPairs}
use Rattle.pinpointing_jobs.proofs.Asked.{workload_question}

-- ---- those of the axioms that are in a set, without their lines

abbrev picked : ℕ → NumberSet → List Axiom → List Axiom
picked k s [] = []
picked k s (a ∷ as_) = if set.contains s k then a ∷ picked (k + 1) s as_ else picked (k + 1) s as_

picked_is : (k : ℕ) (s : NumberSet) (xs : List Numbered)
    → axioms_from k s xs ≡ picked k s (map (λ (a : Numbered). a.axiom) xs)
picked_is k s [] = refl
picked_is k s (x ∷ xs) = ap (λ l. if set.contains s k then x.axiom ∷ l else l) (picked_is (k + 1) s xs)

picked_append : (k : ℕ) (s : NumberSet) (xs ys : List Axiom)
    → picked k s (xs ++ ys) ≡ picked k s xs ++ picked (k + length xs) s ys
picked_append k s [] ys = let same : k ≡ k + 0 = omega arith in ap (λ m. picked m s ys) same
picked_append k s (x ∷ xs) ys =
    let same : (k + 1) + length xs ≡ k + length (x ∷ xs) = omega arith in
    by (picked_append (k + 1) s xs ys) (set.contains s k)
    ∙ ap (λ m. (if set.contains s k then x ∷ picked (k + 1) s xs else picked (k + 1) s xs) ++ picked m s ys) same
  where
    by : picked (k + 1) s (xs ++ ys) ≡ picked (k + 1) s xs ++ picked ((k + 1) + length xs) s ys → (b : Bool)
        → (if b then x ∷ picked (k + 1) s (xs ++ ys) else picked (k + 1) s (xs ++ ys))
        ≡ (if b then x ∷ picked (k + 1) s xs else picked (k + 1) s xs) ++ picked ((k + 1) + length xs) s ys
    by others true = ap (λ l. x ∷ l) others
    by others false = others

module _ (i : Interpretation) (s : NumberSet) where
  all_append : (xs ys : List Axiom) → list_all (meets i) xs ≡ true → list_all (meets i) ys ≡ true
      → list_all (meets i) (xs ++ ys) ≡ true
  all_append [] ys met also = also
  all_append (x ∷ xs) ys met also =
      let both = and_parts (meets i x) (list_all (meets i) xs) met in
      and_from (meets i x) (list_all (meets i) (xs ++ ys)) both.0 (all_append xs ys both.1 also)

  front_met : (xs ys : List Axiom) → list_all (meets i) (xs ++ ys) ≡ true → list_all (meets i) xs ≡ true
  front_met [] ys met = refl
  front_met (x ∷ xs) ys met =
      let both = and_parts (meets i x) (list_all (meets i) (xs ++ ys)) met in
      and_from (meets i x) (list_all (meets i) xs) both.0 (front_met xs ys both.1)

  -- what meets all axioms meets those that are picked
  picked_met : (k : ℕ) (xs : List Axiom) → list_all (meets i) xs ≡ true → list_all (meets i) (picked k s xs) ≡ true
  picked_met k [] met = refl
  picked_met k (x ∷ xs) met =
      let both = and_parts (meets i x) (list_all (meets i) xs) met in
      by (set.contains s k) both.0 (picked_met (k + 1) xs both.1)
    where
      by : (b : Bool) → meets i x ≡ true → list_all (meets i) (picked (k + 1) s xs) ≡ true
          → list_all (meets i) (if b then x ∷ picked (k + 1) s xs else picked (k + 1) s xs) ≡ true
      by true met others = and_from (meets i x) (list_all (meets i) (picked (k + 1) s xs)) met others
      by false met others = others

  -- an axiom whose number is in the set is met where all that are picked are
  first_met : (k : ℕ) (x : Axiom) (xs : List Axiom) → set.contains s k ≡ true
      → list_all (meets i) (picked k s (x ∷ xs)) ≡ true → meets i x ≡ true
  first_met k x xs there met =
      (and_parts (meets i x) (list_all (meets i) (picked (k + 1) s xs))
      (subst (λ (b : Bool). list_all (meets i) (if b then x ∷ picked (k + 1) s xs else picked (k + 1) s xs) ≡ true)
      there met)).0

  rest_met : (k : ℕ) (x : Axiom) (xs : List Axiom) → list_all (meets i) (picked k s (x ∷ xs)) ≡ true
      → list_all (meets i) (picked (k + 1) s xs) ≡ true
  rest_met k x xs met = by (set.contains s k) met
    where
      by : (b : Bool) → list_all (meets i) (if b then x ∷ picked (k + 1) s xs else picked (k + 1) s xs) ≡ true
          → list_all (meets i) (picked (k + 1) s xs) ≡ true
      by true met = (and_parts (meets i x) (list_all (meets i) (picked (k + 1) s xs)) met).1
      by false met = met

-- ---- a set with an axiom of each pair

below_met : (n : ℕ) (p : ℕ → Bool) (x : ℕ) → x < n → all_below n p ≡ true → p x ≡ true
below_met n p x less all =
    elim (cases_Bool (p x)) [
      | inl yes' ↦ yes'
      | inr no' ↦ let clash : true ≡ false = sym all ∙ all_below-false n p x less no' in absurd (cc clash)
    ]

-- an inclusion in a name, and one in an intersection that begins with it
leads : (i : Interpretation) (a b c x : ℕ) → x < i.size
    → (meets i (SubClassOf (name a) (name b)) ≡ true)
    ⊎ (meets i (SubClassOf (name a) (intersection (part (name b) (part (name c) no_parts)))) ≡ true)
    → i.in_class a x ≡ true → i.in_class b x ≡ true
leads i a b c x less (inl met) in_a =
    let here = below_met i.size (λ y. implies (i.in_class a y) (i.in_class b y)) x less met in
    subst (λ (v : Bool). implies v (i.in_class b x) ≡ true) in_a here
leads i a b c x less (inr met) in_a =
    let here =
    below_met i.size (λ y. implies (i.in_class a y) (i.in_class b y && (i.in_class c y && true))) x less met in
    (and_parts (i.in_class b x) (i.in_class c x && true)
    (subst (λ (v : Bool). implies v (i.in_class b x && (i.in_class c x && true)) ≡ true) in_a here)).0

-- the kernel stands first
kernel_first : (n : ℕ) → (more : List Axiom) × (workload_axioms n ≡ kernel_axioms ++ more)
kernel_first zero = ([], refl)
kernel_first (suc n) =
    let before = kernel_first n in (
      before.0 ++ group_axioms (n + 1),
      ap (λ l. l ++ group_axioms (n + 1)) before.1 ∙ append_assoc kernel_axioms before.0 (group_axioms (n + 1)),
    )

module _ (s : NumberSet) (has : HasOneOfEach s) (i : Interpretation) (more : List Axiom)
    (met : list_all (meets i) (picked 1 s (kernel_axioms ++ more)) ≡ true) where
  abbrev from_one : List Axiom
  from_one = kernel_axioms ++ more

  kernel_met : list_all (meets i) (picked 1 s kernel_axioms) ≡ true
  kernel_met =
      front_met i s (picked 1 s kernel_axioms) (picked 8 s more)
      (subst (λ (l : List Axiom). list_all (meets i) l ≡ true) (picked_append 1 s kernel_axioms more) met)

  abbrev one : Axiom
  one = SubClassOf (name 0) (name 1)

  abbrev two : Axiom
  two = SubClassOf (name 0) (intersection (part (name 1) (part (name 2) no_parts)))

  abbrev three : Axiom
  three = SubClassOf (name 1) (name 3)

  abbrev four : Axiom
  four = SubClassOf (name 1) (intersection (part (name 3) (part (name 4) no_parts)))

  abbrev five : Axiom
  five = SubClassOf (name 3) (name 5)

  abbrev six : Axiom
  six = SubClassOf (name 3) (intersection (part (name 5) (part (name 6) no_parts)))

  abbrev seven : List Axiom
  seven = SubRole 0 1 ∷ []

  met_two : list_all (meets i) (picked 2 s (two ∷ three ∷ four ∷ five ∷ six ∷ seven)) ≡ true
  met_two = rest_met i s 1 one (two ∷ three ∷ four ∷ five ∷ six ∷ seven) kernel_met

  met_three : list_all (meets i) (picked 3 s (three ∷ four ∷ five ∷ six ∷ seven)) ≡ true
  met_three = rest_met i s 2 two (three ∷ four ∷ five ∷ six ∷ seven) met_two

  met_four : list_all (meets i) (picked 4 s (four ∷ five ∷ six ∷ seven)) ≡ true
  met_four = rest_met i s 3 three (four ∷ five ∷ six ∷ seven) met_three

  met_five : list_all (meets i) (picked 5 s (five ∷ six ∷ seven)) ≡ true
  met_five = rest_met i s 4 four (five ∷ six ∷ seven) met_four

  met_six : list_all (meets i) (picked 6 s (six ∷ seven)) ≡ true
  met_six = rest_met i s 5 five (six ∷ seven) met_five

  pair_met : (k m : ℕ) (a b : Axiom) (xs ys : List Axiom) → HasOneOf s k m
      → list_all (meets i) (picked k s (a ∷ xs)) ≡ true → list_all (meets i) (picked m s (b ∷ ys)) ≡ true
      → (meets i a ≡ true) ⊎ (meets i b ≡ true)
  pair_met k m a b xs ys (inl there) first second = inl (first_met i s k a xs there first)
  pair_met k m a b xs ys (inr there) first second = inr (first_met i s m b ys there second)

  never_refuted : (x : ℕ) → x < i.size → refutes_at i wanted x ≡ false
  never_refuted x less =
      elim (cases_Bool (i.in_class 0 x)) [
        | inl in_q0 ↦
            let in_q1 =
            leads i 0 1 2 x less
            (pair_met 1 2 one two (two ∷ three ∷ four ∷ five ∷ six ∷ seven) (three ∷ four ∷ five ∷ six ∷ seven)
            has.first kernel_met met_two)
            in_q0 in
            let in_q2 =
            leads i 1 3 4 x less
            (pair_met 3 4 three four (four ∷ five ∷ six ∷ seven) (five ∷ six ∷ seven) has.second met_three met_four)
            in_q1 in
            let in_q3 =
            leads i 3 5 6 x less (pair_met 5 6 five six (six ∷ seven) seven has.third met_five met_six) in_q2 in
            (λ j. in_q0 j && not (in_q3 j))
        | inr out ↦ ap (λ b. b && not (i.in_class 5 x)) out
      ]

pub from_pairs : (n : ℕ) (s : NumberSet) → HasOneOfEach s → Entails (picked 1 s (workload_axioms n)) wanted
from_pairs n s has i some placed met x less =
    let kernel = kernel_first n in
    never_refuted s has i kernel.0 (subst (λ (l : List Axiom). list_all (meets i) (picked 1 s l) ≡ true) kernel.1 met) x
    less

-- ---- a set that lacks both axioms of a pair

-- one element, in the classes below a bound
abbrev bounded : ℕ → Interpretation
bounded t = record { size = 1; in_class = λ a x. nat_lt a t; in_role = λ r x y. false; individual = λ a. 0 }

not_below : (a t : ℕ) → t ≤ a → nat_lt a t ≡ false
not_below a t le = grind (arith, nat_tests)

-- the groups are met, since their classes have no element
group_met : (t k : ℕ) → t ≤ 7 → 1 ≤ k → list_all (meets (bounded t)) (group_axioms k) ≡ true
group_met t k small some =
    let no_a = not_below (class_a k) t (omega (arith, small, some)) in
    let no_b = not_below (class_b k) t (omega (arith, small, some)) in
    let no_c = not_below (class_c k) t (omega (arith, small, some)) in
    rw (no_a, no_b, no_c) refl

groups_met : (t : ℕ) → t ≤ 7 → (n : ℕ) (s : NumberSet) → list_all (meets (bounded t)) (picked 1 s kernel_axioms) ≡ true
    → list_all (meets (bounded t)) (picked 1 s (workload_axioms n)) ≡ true
groups_met t small zero s met = met
groups_met t small (suc n) s met =
    subst (λ (l : List Axiom). list_all (meets (bounded t)) l ≡ true)
    (sym (picked_append 1 s (workload_axioms n) (group_axioms (n + 1))))
    (all_append (bounded t) s (picked 1 s (workload_axioms n))
    (picked (1 + length (workload_axioms n)) s (group_axioms (n + 1))) (groups_met t small n s met)
    (picked_met (bounded t) s (1 + length (workload_axioms n)) (group_axioms (n + 1))
    (group_met t (n + 1) small (omega arith))))

neither : (s : NumberSet) (k m : ℕ) → set.contains s k ≡ false → set.contains s m ≡ false → HasOneOf s k m → ⊥
neither s k m out also (inl there) = let clash : true ≡ false = sym there ∙ out in absurd (cc clash)
neither s k m out also (inr there) = let clash : true ≡ false = sym there ∙ also in absurd (cc clash)

one_of : (s : NumberSet) (k m : ℕ) → (set.contains s k ≡ false → set.contains s m ≡ false → ⊥) → HasOneOf s k m
one_of s k m no' =
    elim (cases_Bool (set.contains s k)) [
      | inl there ↦ inl there
      | inr out ↦ elim (cases_Bool (set.contains s m)) [ inl there ↦ inr there | inr also ↦ absurd (no' out also) ]
    ]

module _ (n : ℕ) (s : NumberSet) (follows_from : Entails (picked 1 s (workload_axioms n)) wanted) where
  no_counter : (t : ℕ) → t ≤ 7 → refutes_at (bounded t) wanted 0 ≡ true
      → list_all (meets (bounded t)) (picked 1 s kernel_axioms) ≡ true → ⊥
  no_counter t small refuted met =
      let clash : true ≡ false =
      sym refuted
      ∙ follows_from (bounded t) (omega arith) (λ a. omega arith) (groups_met t small n s met) 0 (omega arith) in
      absurd (cc clash)

  abbrev behind_first : List Axiom
  behind_first =
      SubClassOf (name 1) (name 3)
      ∷ SubClassOf (name 1) (intersection (part (name 3) (part (name 4) no_parts)))
      ∷ SubClassOf (name 3) (name 5)
      ∷ SubClassOf (name 3) (intersection (part (name 5) (part (name 6) no_parts)))
      ∷ SubRole 0 1
      ∷ []

  -- the kernel but for a pair is met by an element that has the classes before the pair
  without_first : set.contains s 1 ≡ false → set.contains s 2 ≡ false
      → list_all (meets (bounded 1)) (picked 1 s kernel_axioms) ≡ true
  without_first out also = rw (out, also) (picked_met (bounded 1) s 3 behind_first refl)

  abbrev before_second : List Axiom
  before_second =
      SubClassOf (name 0) (name 1) ∷ SubClassOf (name 0) (intersection (part (name 1) (part (name 2) no_parts))) ∷ []

  abbrev behind_second : List Axiom
  behind_second =
      SubClassOf (name 3) (name 5) ∷ SubClassOf (name 3) (intersection (part (name 5) (part (name 6) no_parts)))
      ∷ SubRole 0 1 ∷ []

  abbrev second_pair : List Axiom
  second_pair =
      SubClassOf (name 1) (name 3) ∷ SubClassOf (name 1) (intersection (part (name 3) (part (name 4) no_parts))) ∷ []

  second_out : set.contains s 3 ≡ false → set.contains s 4 ≡ false
      → picked 3 s (second_pair ++ behind_second) ≡ picked 5 s behind_second
  second_out out also = rw (out, also) refl

  without_second : set.contains s 3 ≡ false → set.contains s 4 ≡ false
      → list_all (meets (bounded 3)) (picked 1 s kernel_axioms) ≡ true
  without_second out also =
      subst (λ (l : List Axiom). list_all (meets (bounded 3)) l ≡ true)
      (sym (picked_append 1 s before_second (second_pair ++ behind_second)))
      (all_append (bounded 3) s (picked 1 s before_second) (picked 3 s (second_pair ++ behind_second))
      (picked_met (bounded 3) s 1 before_second refl)
      (subst (λ (l : List Axiom). list_all (meets (bounded 3)) l ≡ true) (sym (second_out out also))
      (picked_met (bounded 3) s 5 behind_second refl)))

  abbrev before_third : List Axiom
  before_third = before_second ++ second_pair

  abbrev behind_third : List Axiom
  behind_third = SubRole 0 1 ∷ []

  abbrev third_pair : List Axiom
  third_pair =
      SubClassOf (name 3) (name 5) ∷ SubClassOf (name 3) (intersection (part (name 5) (part (name 6) no_parts))) ∷ []

  third_out : set.contains s 5 ≡ false → set.contains s 6 ≡ false
      → picked 5 s (third_pair ++ behind_third) ≡ picked 7 s behind_third
  third_out out also = rw (out, also) refl

  without_third : set.contains s 5 ≡ false → set.contains s 6 ≡ false
      → list_all (meets (bounded 5)) (picked 1 s kernel_axioms) ≡ true
  without_third out also =
      subst (λ (l : List Axiom). list_all (meets (bounded 5)) l ≡ true)
      (sym (picked_append 1 s before_third (third_pair ++ behind_third)))
      (all_append (bounded 5) s (picked 1 s before_third) (picked 5 s (third_pair ++ behind_third))
      (picked_met (bounded 5) s 1 before_third refl)
      (subst (λ (l : List Axiom). list_all (meets (bounded 5)) l ≡ true) (sym (third_out out also))
      (picked_met (bounded 5) s 7 behind_third refl)))

  pub pairs_from : HasOneOfEach s
  pairs_from = record {
    first = one_of s 1 2 (λ out also. no_counter 1 (omega arith) refl (without_first out also));
    second = one_of s 3 4 (λ out also. no_counter 3 (omega arith) refl (without_second out also));
    third = one_of s 5 6 (λ out also. no_counter 5 (omega arith) refl (without_third out also));
  }

-- ---- the whole

pub by_pairs : OfWorkloads FollowsByPairs
by_pairs n o q few is s =
    let w : IsWorkload n (workload_text n) = workloads_are_documents n few in
    let same = questions (follows workload_query) (workload_text n) o w.read q wanted is (workload_question n few) in
    let axioms : axioms_from 1 s o.axioms ≡ picked 1 s (workload_axioms n) =
    ap (λ (l : Listed). axioms_from 1 s l.axioms) same.0 ∙ picked_is 1 s w.read.axioms ∙ ap (picked 1 s) w.axioms in (
      λ h. pairs_from n s
          (subst (λ (k : Asked). Entails (picked 1 s (workload_axioms n)) k) same.1
          (subst (λ (l : List Axiom). Entails l q) axioms h)),
      λ has. subst (λ (l : List Axiom). Entails l q) (sym axioms)
          (subst (λ (k : Asked). Entails (picked 1 s (workload_axioms n)) k) (sym same.1) (from_pairs n s has)),
    )
