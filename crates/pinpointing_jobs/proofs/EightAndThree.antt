-- The query of workloads has eight justifications and three repairs.
use Rattle.std.proofs.Common.{◌≡◌, ◌≢◌, ◌⊎◌, inl, inr, ℕ, zero, suc, ◌+◌, ◌-◌, ◌<◌, ◌≤◌, Bool, true, false, eqb, eq-eqb}
use Rattle.std.proofs.Common.{List, [], ◌∷◌, length, get_or, map, refl, ap, sym, ◌∙◌, subst, arith, length-append}
use Rattle.std.specs.Prelude.{◌↔◌, ◌||◌}
use Rattle.std.specs.List.{Contains, list_any}
use Rattle.std.specs.Ordering.{nat_cmp}
use Rattle.std.specs.Cmp.Lexicographic.{slice_cmp}
use Rattle.std.specs.declared.cmp.Ordering.TheVariants.{Less}
use Rattle.std.specs.FinSet as set
use Rattle.std.proofs.Math.Bool.{or-true}
use Rattle.std.proofs.lemmas.Bool.{cases_Bool, cases_eq, ne_eqb, true≢false}
use Rattle.lane_sieve.specs.Sets.{NumberSet, IsPart, passing}
use Rattle.lane_sieve.proofs.Bits.{contains_insert}
use Rattle.lane_sieve.proofs.Ranges.{passing_same, passing_upto}
use Rattle.axiom_sets.specs.Sets.{Limited, IsWithin, member_list, list_cmp}
use Rattle.axiom_sets.proofs.Same.{set_of_parts}
use Rattle.pinpointing_specs.specs.Smallest.{rest, without, IsMinimalYes, IsMinimalRemoval}
use Rattle.pinpointing_specs.specs.Order.{IsAscending}
use Rattle.pinpointing_specs.proofs.Choices.{in_without, to_without, in_rest, to_rest}
use Rattle.shq_terms.specs.Listed.{Listed}
use Rattle.shq_terms.specs.declared.axioms.Numbered.{Numbered}
use Rattle.shq_terms.specs.declared.axioms.Query.{Query as Asked}
use Rattle.pinpointing_specs.specs.LocalModule.{FollowsFrom, of_axioms}
use Rattle.pinpointing_specs.proofs.Grown.{grows}
use Rattle.query_asker.specs.Entry.{Entry}
use Rattle.workload.specs.Laws.{IsWorkload, asked as wanted}
use Rattle.workload.specs.WorkloadText.{workload_text}
use Rattle.workload.specs.WorkloadAxioms.{group_axioms, workload_axioms}
use Rattle.workload.proofs.Whole.{workloads_are_documents}
use Rattle.job_inputs.specs.Questions.{follows, IsQuestion}
use Rattle.job_inputs.specs.declared.status.Status.TheVariants.{Done}
use Rattle.job_inputs.proofs.OneReading.{questions}
use Rattle.pinpointing_jobs.specs.declared.wanted.Wanted.TheVariants.{Justifications, Repairs}
use Rattle.pinpointing_jobs.specs.Answers.{workload_query}
use Rattle.pinpointing_jobs.specs.Wanted.{HasAll}
use Rattle.pinpointing_jobs.specs.Listings.{end_status}
use Rattle.pinpointing_jobs.specs.Counts.{counts_text, IsCount, AreCounted}
use Rattle.pinpointing_jobs.specs.WorkloadSets.{HasOneOf, HasOneOfEach, OfWorkloads, one_of_each, three_pairs, sets_of}
use Rattle.pinpointing_jobs.specs.WorkloadSets.{HasEightAndThree, WorkloadsCountEightAndThree}
use Rattle.pinpointing_jobs.proofs.Asked.{workload_question}
use Rattle.pinpointing_jobs.proofs.RepairSets.{to_justification, from_justification, to_repair, from_repair}
use Rattle.pinpointing_jobs.proofs.Searched.{whole_part}
use Rattle.pinpointing_jobs.proofs.Unique.{same_lists}
use Rattle.pinpointing_jobs.proofs.WorkloadSets.{by_pairs}

-- ---- sets of few members

in_insert : (s : NumberSet) (n k : ℕ) → set.contains (set.insert s n) k ≡ true → (k ≡ n) ⊎ (set.contains s k ≡ true)
in_insert s n k h =
    elim (cases_eq k n) [ inl e ↦ inl e | inr ne ↦ inr (rw (ne_eqb k n ne) at (sym (contains_insert s n k) ∙ h)) ]

inserted : (s : NumberSet) (n : ℕ) → set.contains (set.insert s n) n ≡ true
inserted s n = contains_insert s n n ∙ ap (λ (b : Bool). b || set.contains s n) (eq-eqb n n refl)

still_in : (s : NumberSet) (n k : ℕ) → set.contains s k ≡ true → set.contains (set.insert s n) k ≡ true
still_in s n k h = contains_insert s n k ∙ ap (λ (b : Bool). eqb k n || b) h ∙ or-true (eqb k n)

in_none : (k : ℕ) → set.contains (set.empty {R = nat_cmp}) k ≡ true → ⊥
in_none k h = true≢false (sym h ∙ set.contains-empty nat_cmp k)

-- one of two numbers that follow each other
one_in : (s : NumberSet) (k x : ℕ) → k ≤ x → x ≤ k + 1 → set.contains s x ≡ true → HasOneOf s k (k + 1)
one_in s k x low high h = elim (cases_eq x k) [
  | inl e ↦ inl (subst (λ (i : ℕ). set.contains s i ≡ true) e h)
  | inr ne ↦ let next : x ≡ k + 1 = omega arith in inr (subst (λ (i : ℕ). set.contains s i ≡ true) next h)
]

record IsOneIn (s : NumberSet) (k : ℕ) : Type 0 where
  number : ℕ
  low : k ≤ number
  high : number ≤ k + 1
  member : set.contains s number ≡ true

the_one : (s : NumberSet) (k : ℕ) → HasOneOf s k (k + 1) → IsOneIn s k
the_one s k (inl h) = record { number = k; low = omega arith; high = omega arith; member = h }
the_one s k (inr h) = record { number = k + 1; low = omega arith; high = omega arith; member = h }

triple : ℕ → ℕ → ℕ → NumberSet
triple x y z = set.from_list (x ∷ y ∷ z ∷ [])

of_triple : (x y z k : ℕ) → set.contains (triple x y z) k ≡ true → (k ≡ x) ⊎ ((k ≡ y) ⊎ (k ≡ z))
unfolding triple
of_triple x y z k h = elim (in_insert (set.from_list (y ∷ z ∷ [])) x k h) [
  | inl e ↦ inl e
  | inr more ↦ elim (in_insert (set.from_list (z ∷ [])) y k more) [
    | inl e ↦ inr (inl e)
    | inr last ↦ elim (in_insert set.empty z k last) [ inl e ↦ inr (inr e) | inr never ↦ absurd (in_none k never) ]
  ]
]

triple_has : (x y z : ℕ)
    → (set.contains (triple x y z) x ≡ true) × (set.contains (triple x y z) y ≡ true)
    × (set.contains (triple x y z) z ≡ true)
unfolding triple
triple_has x y z = (
  inserted (set.from_list (y ∷ z ∷ [])) x,
  still_in (set.from_list (y ∷ z ∷ [])) x y (inserted (set.from_list (z ∷ [])) y),
  still_in (set.from_list (y ∷ z ∷ [])) x z (still_in (set.from_list (z ∷ [])) y z (inserted set.empty z)),
)

pair : ℕ → NumberSet
pair k = set.from_list (k ∷ (k + 1) ∷ [])

of_pair : (k i : ℕ) → set.contains (pair k) i ≡ true → (k ≤ i) × (i ≤ k + 1)
unfolding pair
of_pair k i h = elim (in_insert (set.from_list ((k + 1) ∷ [])) k i h) [
  | inl e ↦ (omega arith, omega arith)
  | inr more ↦ elim (in_insert set.empty (k + 1) i more)
      [ inl e ↦ (omega arith, omega arith) | inr never ↦ absurd (in_none i never) ]
]

pair_has : (k : ℕ) → (set.contains (pair k) k ≡ true) × (set.contains (pair k) (k + 1) ≡ true)
unfolding pair
pair_has k = (
  inserted (set.from_list ((k + 1) ∷ [])) k,
  still_in (set.from_list ((k + 1) ∷ [])) k (k + 1) (inserted set.empty (k + 1)),
)

-- ---- which sets are smallest

module _ (holds : NumberSet → Type 0) (limit : ℕ) (six : 6 ≤ limit) (pairs : (s : NumberSet) → holds s ↔ HasOneOfEach s)
    (grow : (s t : NumberSet) → IsPart s t → holds s → holds t) where
  abbrev within_limit : NumberSet → Limited
  within_limit s = record { limit = limit; members = s }

  module _ (x y z : ℕ) (x_low : 1 ≤ x) (x_high : x ≤ 2) (y_low : 3 ≤ y) (y_high : y ≤ 4) (z_low : 5 ≤ z)
      (z_high : z ≤ 6) where
    triple_holds : holds (triple x y z)
    triple_holds =
        let has = triple_has x y z in
        (pairs (triple x y z)).1 (record {
          first = one_in (triple x y z) 1 x x_low x_high has.0;
          second = one_in (triple x y z) 3 y y_low y_high has.1;
          third = one_in (triple x y z) 5 z z_low z_high has.2;
        })

    triple_within : IsWithin limit (triple x y z)
    triple_within k h = elim (of_triple x y z k h) [
      | inl e ↦ (omega arith, omega arith)
      | inr more ↦ elim more [ inl e ↦ (omega arith, omega arith) | inr e ↦ (omega arith, omega arith) ]
    ]

    -- what is left without a member lacks a pair
    lacks_one : (k : ℕ) → set.contains (triple x y z) k ≡ true → HasOneOfEach (set.remove (triple x y z) k) → ⊥
    lacks_one k h has =
        let s = set.remove (triple x y z) k in
        let a = the_one s 1 has.first in
        let b = the_one s 3 has.second in
        let c = the_one s 5 has.third in
        let in_a = in_without (triple x y z) k a.number a.member in
        let in_b = in_without (triple x y z) k b.number b.member in
        let in_c = in_without (triple x y z) k c.number c.member in
        let is_a : a.number ≡ x = elim (of_triple x y z a.number in_a.1) [
          | inl e ↦ e
          | inr more ↦ elim more
              [ inl e ↦ absurd (omega (arith, e, a.high, y_low)) | inr e ↦ absurd (omega (arith, e, a.high, z_low)) ]
        ] in
        let is_b : b.number ≡ y = elim (of_triple x y z b.number in_b.1) [
          | inl e ↦ absurd (omega (arith, e, b.low, x_high))
          | inr more ↦ elim more [ inl e ↦ e | inr e ↦ absurd (omega (arith, e, b.high, z_low)) ]
        ] in
        let is_c : c.number ≡ z = elim (of_triple x y z c.number in_c.1) [
          | inl e ↦ absurd (omega (arith, e, c.low, x_high))
          | inr more ↦ elim more [ inl e ↦ absurd (omega (arith, e, c.low, y_high)) | inr e ↦ e ]
        ] in
        elim (of_triple x y z k h) [
          | inl e ↦ in_a.0 (is_a ∙ sym e)
          | inr more ↦ elim more [ inl e ↦ in_b.0 (is_b ∙ sym e) | inr e ↦ in_c.0 (is_c ∙ sym e) ]
        ]

    triple_smallest : IsMinimalYes holds (within_limit (triple x y z))
    triple_smallest = record {
      within = triple_within;
      yes_set = triple_holds;
      needed = λ k h claim. lacks_one k h ((pairs (set.remove (triple x y z) k)).0 claim);
    }

  -- a smallest set has three members
  record IsTriple (s : Limited) : Type 0 where
    x : IsOneIn s.members 1
    y : IsOneIn s.members 3
    z : IsOneIn s.members 5
    is : s.members ≡ triple x.number y.number z.number

  smallest_is : (s : Limited) → IsMinimalYes holds s → IsTriple s
  smallest_is s smallest =
      let has = (pairs s.members).0 smallest.yes_set in
      let a = the_one s.members 1 has.first in
      let b = the_one s.members 3 has.second in
      let c = the_one s.members 5 has.third in
      let t = triple a.number b.number c.number in
      let part : IsPart t s.members = λ k h. elim (of_triple a.number b.number c.number k h) [
        | inl e ↦ subst (λ (i : ℕ). set.contains s.members i ≡ true) (sym e) a.member
        | inr more ↦ elim more [
          | inl e ↦ subst (λ (i : ℕ). set.contains s.members i ≡ true) (sym e) b.member
          | inr e ↦ subst (λ (i : ℕ). set.contains s.members i ≡ true) (sym e) c.member
        ]
      ] in
      record {
        x = a;
        y = b;
        z = c;
        is =
            sym (whole_part holds s t grow smallest
            (triple_holds a.number b.number c.number a.low a.high b.low b.high c.low c.high) part);
      }

  -- ---- which removals are

  module _ (k : ℕ) (low : 1 ≤ k) (high : k ≤ 5) (pick : (s : NumberSet) → HasOneOfEach s → HasOneOf s k (k + 1)) where
    pair_ends : (s : NumberSet) → IsPart (pair k) s → (l : ℕ) → holds (rest (record { limit = l; members = s })) → ⊥
    pair_ends s part l claim =
        let r : Limited = record { limit = l; members = s } in
        let one = the_one (rest r) k (pick (rest r) ((pairs (rest r)).0 claim)) in
        let out = in_rest r one.number one.member in
        let inside : set.contains (pair k) one.number ≡ true = elim (cases_eq one.number k) [
          | inl e ↦ subst (λ (i : ℕ). set.contains (pair k) i ≡ true) (sym e) (pair_has k).0
          | inr ne ↦
              let next : one.number ≡ k + 1 = omega (arith, one.low, one.high, ne) in
              subst (λ (i : ℕ). set.contains (pair k) i ≡ true) (sym next) (pair_has k).1
        ] in
        true≢false (sym (part one.number inside) ∙ out)

    -- a pair is left where it is another one, and where one of its members is given back
    one_left : (i b : ℕ) → set.contains (pair k) i ≡ true → 1 ≤ b → b ≤ 5 → b ≢ k + 1
        → HasOneOf (rest (without (within_limit (pair k)) i)) b (b + 1)
    one_left i b member b_low b_high other =
        let r = without (within_limit (pair k)) i in
        elim (cases_eq b k) [
          | inl e ↦
              let bounds = of_pair k i member in
              one_in (rest r) b i (omega (arith, bounds.0, e)) (omega (arith, bounds.1, e))
              (to_rest r i (omega (arith, bounds.0, low)) (omega (arith, bounds.1, high, six))
              (elim (cases_Bool (set.contains (set.remove (pair k) i) i))
              [ inl there ↦ absurd ((in_without (pair k) i i there).0 refl) | inr out ↦ out ]))
          | inr ne ↦
              inl (to_rest r b b_low (omega (arith, b_high, six))
              (elim (cases_Bool (set.contains (set.remove (pair k) i) b)) [
                | inl there ↦
                    let bounds = of_pair k b (in_without (pair k) i b there).1 in
                    absurd (omega (arith, bounds.0, bounds.1, ne, other))
                | inr out ↦ out
              ]))
        ]

    pair_smallest : 1 ≢ k + 1 → 3 ≢ k + 1 → 5 ≢ k + 1 → IsMinimalRemoval holds (within_limit (pair k))
    pair_smallest not_1 not_3 not_5 = record {
      within = λ i h. let bounds = of_pair k i h in (omega (arith, bounds.0, low), omega (arith, bounds.1, high, six));
      ends = pair_ends (pair k) (λ i h. h) limit;
      needed = λ i h. (pairs (rest (without (within_limit (pair k)) i))).1 (record {
        first = one_left i 1 h (omega arith) (omega arith) not_1;
        second = one_left i 3 h (omega arith) (omega arith) not_3;
        third = one_left i 5 h (omega arith) (omega arith) not_5;
      });
    }

    -- a smallest removal with the pair has nothing else
    is_pair : (r : Limited) → IsMinimalRemoval holds r → IsPart (pair k) r.members → r.members ≡ pair k
    is_pair r smallest part =
        set_of_parts r.members (pair k)
        (λ i in_r. elim (cases_Bool (set.contains (pair k) i)) [
          | inl there ↦ there
          | inr out ↦
              absurd (pair_ends (set.remove r.members i)
              (λ j in_pair. to_without r.members i j
              (λ e. true≢false (sym in_pair ∙ ap (set.contains (pair k)) e ∙ out)) (part j in_pair))
              r.limit (smallest.needed i in_r))
        ]) part

    -- both of a pair are in a set, or one is in its rest
    both_or_one : (r : Limited) → 6 ≤ r.limit → IsPart (pair k) r.members ⊎ HasOneOf (rest r) k (k + 1)
    both_or_one r large = elim (cases_Bool (set.contains r.members k)) [
      | inl first ↦ elim (cases_Bool (set.contains r.members (k + 1))) [
        | inl second ↦ inl (λ i h. let bounds = of_pair k i h in elim (cases_eq i k) [
          | inl e ↦ subst (λ (j : ℕ). set.contains r.members j ≡ true) (sym e) first
          | inr ne ↦
              let next : i ≡ k + 1 = omega (arith, bounds.0, bounds.1, ne) in
              subst (λ (j : ℕ). set.contains r.members j ≡ true) (sym next) second
        ])
        | inr out ↦ inr (inr (to_rest r (k + 1) (omega arith) (omega (arith, high, large)) out))
      ]
      | inr out ↦ inr (inl (to_rest r k low (omega (arith, high, large)) out))
    ]

  first_of : (s : NumberSet) → HasOneOfEach s → HasOneOf s 1 2
  first_of s has = has.first

  second_of : (s : NumberSet) → HasOneOfEach s → HasOneOf s 3 4
  second_of s has = has.second

  third_of : (s : NumberSet) → HasOneOfEach s → HasOneOf s 5 6
  third_of s has = has.third

  removal_is : (r : Limited) → r.limit ≡ limit → IsMinimalRemoval holds r
      → (r.members ≡ pair 1) ⊎ ((r.members ≡ pair 3) ⊎ (r.members ≡ pair 5))
  removal_is r e smallest =
      let large : 6 ≤ r.limit = omega (arith, e, six) in
      elim (both_or_one 1 (omega arith) (omega arith) first_of r large) [
        | inl part ↦ inl (is_pair 1 (omega arith) (omega arith) first_of r smallest part)
        | inr one ↦ elim (both_or_one 3 (omega arith) (omega arith) second_of r large) [
          | inl part ↦ inr (inl (is_pair 3 (omega arith) (omega arith) second_of r smallest part))
          | inr other ↦ elim (both_or_one 5 (omega arith) (omega arith) third_of r large) [
            | inl part ↦ inr (inr (is_pair 5 (omega arith) (omega arith) third_of r smallest part))
            | inr last ↦
                absurd (smallest.ends ((pairs (rest r)).1 (record { first = one; second = other; third = last })))
          ]
        ]
      ]

-- ---- their order

contains_list : (ks : List ℕ) (k : ℕ) → set.contains (set.from_list {R = nat_cmp} ks) k ≡ list_any (eqb k) ks
contains_list [] k = set.contains-empty nat_cmp k
contains_list (x ∷ ks) k = contains_insert (set.from_list ks) x k ∙ ap (λ (b : Bool). eqb k x || b) (contains_list ks k)

abbrev AreBelow : List ℕ → Type 0
AreBelow [] = Unit {0}
AreBelow (x ∷ ks) = (x < 7) × AreBelow ks

none_from : (ks : List ℕ) → AreBelow ks → (k : ℕ) → 7 ≤ k → list_any (eqb k) ks ≡ false
none_from [] below k le = refl
none_from (x ∷ ks) below k le =
    rw (ne_eqb k x (λ e. absurd (omega (arith, e, below.0, le)))) (none_from ks below.1 k le)

-- the numbers are below 7 and ascending
record IsShort (ks : List ℕ) : Type 0 where
  below : AreBelow ks
  ascends : passing (λ k. list_any (eqb k) ks) 0 7 ≡ ks

members_are : (limit : ℕ) → 6 ≤ limit → (ks : List ℕ) → IsShort ks
    → member_list (record { limit = limit; members = set.from_list ks }) ≡ ks
members_are limit six ks short =
    let p : ℕ → Bool = λ k. list_any (eqb k) ks in
    let e : limit + 1 ≡ 7 + (limit - 6) = omega arith in
    passing_same (set.contains (set.from_list ks)) p 0 (limit + 1) (λ k low high. contains_list ks k)
    ∙ ap (passing p 0) e
    ∙ passing_upto p 0 7 (limit - 6) (λ k low high. none_from ks short.below k (omega (arith, low))) ∙ short.ascends

abbrev AreShort : List (List ℕ) → Type 0
AreShort [] = Unit {0}
AreShort (ks ∷ more) = IsShort ks × AreShort more

abbrev AreLess : List ℕ → List (List ℕ) → Type 0
AreLess ks [] = Unit {0}
AreLess ks (ls ∷ more) = (slice_cmp nat_cmp ks ls ≡ Less) × AreLess ks more

abbrev Ascends : List (List ℕ) → Type 0
Ascends [] = Unit {0}
Ascends (ks ∷ more) = AreLess ks more × Ascends more

module _ (o : Listed) (six : 6 ≤ length o.axioms) where
  abbrev axiom_set : List ℕ → Limited
  axiom_set ks = of_axioms o.axioms (set.from_list ks)

  first_less : (ks : List ℕ) (more : List (List ℕ)) → IsShort ks → AreShort more → AreLess ks more
      → (j : ℕ) (d : Limited) → j < length (sets_of o more)
      → list_cmp (axiom_set ks) (get_or (sets_of o more) j d) ≡ Less
  first_less ks [] short shorts less j d lt = absurd (omega (arith, lt))
  first_less ks (ls ∷ more) short shorts less zero d lt =
      (λ i. slice_cmp nat_cmp (members_are (length o.axioms) six ks short i)
      (members_are (length o.axioms) six ls shorts.0 i))
      ∙ less.0
  first_less ks (ls ∷ more) short shorts less (suc j) d lt =
      first_less ks more short shorts.1 less.1 j d (omega (arith, lt))

  ascending : (lists : List (List ℕ)) → AreShort lists → Ascends lists → IsAscending (sets_of o lists)
  ascending [] shorts ascends i j d lt within = absurd (omega (arith, within))
  ascending (ks ∷ more) shorts ascends i zero d lt within = absurd (omega (arith, lt))
  ascending (ks ∷ more) shorts ascends zero (suc j) d lt within =
      first_less ks more shorts.0 shorts.1 ascends.0 j d (omega (arith, within))
  ascending (ks ∷ more) shorts ascends (suc i) (suc j) d lt within =
      ascending more shorts.1 ascends.1 i j d (omega (arith, lt)) (omega (arith, within))

three_short : (x y z : ℕ) → x < 7 → y < 7 → z < 7
    → passing (λ k. list_any (eqb k) (x ∷ y ∷ z ∷ [])) 0 7 ≡ x ∷ y ∷ z ∷ [] → IsShort (x ∷ y ∷ z ∷ [])
three_short x y z a b c e = record { below = (a, (b, (c, tt))); ascends = e }

two_short : (x y : ℕ) → x < 7 → y < 7 → passing (λ k. list_any (eqb k) (x ∷ y ∷ [])) 0 7 ≡ x ∷ y ∷ []
    → IsShort (x ∷ y ∷ [])
two_short x y a b e = record { below = (a, (b, tt)); ascends = e }

eight_short : AreShort one_of_each
unfolding passing
eight_short = (
  three_short 1 3 5 (omega arith) (omega arith) (omega arith) refl,
  (
    three_short 1 3 6 (omega arith) (omega arith) (omega arith) refl,
    (
      three_short 1 4 5 (omega arith) (omega arith) (omega arith) refl,
      (
        three_short 1 4 6 (omega arith) (omega arith) (omega arith) refl,
        (
          three_short 2 3 5 (omega arith) (omega arith) (omega arith) refl,
          (
            three_short 2 3 6 (omega arith) (omega arith) (omega arith) refl,
            (
              three_short 2 4 5 (omega arith) (omega arith) (omega arith) refl,
              (
                three_short 2 4 6 (omega arith) (omega arith) (omega arith) refl,
                tt,
              ),
            ),
          ),
        ),
      ),
    ),
  ),
)

eight_ascend : Ascends one_of_each
eight_ascend = (
  (refl, (refl, (refl, (refl, (refl, (refl, (refl, tt))))))),
  (
    (refl, (refl, (refl, (refl, (refl, (refl, tt)))))),
    (
      (refl, (refl, (refl, (refl, (refl, tt))))),
      (
        (refl, (refl, (refl, (refl, tt)))),
        (
          (refl, (refl, (refl, tt))),
          (
            (refl, (refl, tt)),
            (
              (refl, tt),
              (tt, tt),
            ),
          ),
        ),
      ),
    ),
  ),
)

three_are_short : AreShort three_pairs
unfolding passing
three_are_short = (
  two_short 1 2 (omega arith) (omega arith) refl,
  (two_short 3 4 (omega arith) (omega arith) refl, (two_short 5 6 (omega arith) (omega arith) refl, tt)),
)

three_ascend : Ascends three_pairs
three_ascend = ((refl, (refl, tt)), ((refl, tt), (tt, tt)))

-- ---- all of them

module _ (o : Listed) (q : Asked) (large : 6 ≤ length o.axioms)
    (pairs : (s : NumberSet) → FollowsFrom o.axioms q s ↔ HasOneOfEach s) where
  abbrev from : NumberSet → Type 0
  from = FollowsFrom o.axioms q

  abbrev eight : List Limited
  eight = sets_of o one_of_each

  abbrev three : List Limited
  three = sets_of o three_pairs

  triple_at : (s : Limited) → s.limit ≡ length o.axioms → (x y z a b c place : ℕ) → s.members ≡ triple x y z → x ≡ a
      → y ≡ b → z ≡ c → place < 8 → get_or eight place s ≡ axiom_set o large (a ∷ b ∷ c ∷ []) → Contains eight s
  unfolding triple
  triple_at s limit x y z a b c place is e f g lt at = (
    place,
    lt,
    at ∙ (λ i. record {
      limit = sym limit i;
      members = (sym (is ∙ (λ j. set.from_list (e j ∷ f j ∷ g j ∷ [])))) i;
    }),
  )

  listed_triple : (s : Limited) → s.limit ≡ length o.axioms
      → IsTriple from (length o.axioms) large pairs (grows o.axioms q) s → Contains eight s
  listed_triple s limit t =
      let a = t.x in
      let b = t.y in
      let c = t.z in
      let at : (u v w place : ℕ) → a.number ≡ u → b.number ≡ v → c.number ≡ w → place < 8
      → get_or eight place s ≡ axiom_set o large (u ∷ v ∷ w ∷ []) → Contains eight s =
      λ u v w place e f g lt h. triple_at s limit a.number b.number c.number u v w place t.is e f g lt h in
      elim (cases_eq a.number 1) [
        | inl e ↦ elim (cases_eq b.number 3) [
          | inl f ↦ elim (cases_eq c.number 5) [
            | inl g ↦ at 1 3 5 0 e f g (omega arith) refl
            | inr g ↦ at 1 3 6 1 e f (omega (arith, c.low, c.high, g)) (omega arith) refl
          ]
          | inr f ↦
              let f' : b.number ≡ 4 = omega (arith, b.low, b.high, f) in
              elim (cases_eq c.number 5) [
                | inl g ↦ at 1 4 5 2 e f' g (omega arith) refl
                | inr g ↦ at 1 4 6 3 e f' (omega (arith, c.low, c.high, g)) (omega arith) refl
              ]
        ]
        | inr e ↦
            let e' : a.number ≡ 2 = omega (arith, a.low, a.high, e) in
            elim (cases_eq b.number 3) [
              | inl f ↦ elim (cases_eq c.number 5) [
                | inl g ↦ at 2 3 5 4 e' f g (omega arith) refl
                | inr g ↦ at 2 3 6 5 e' f (omega (arith, c.low, c.high, g)) (omega arith) refl
              ]
              | inr f ↦
                  let f' : b.number ≡ 4 = omega (arith, b.low, b.high, f) in
                  elim (cases_eq c.number 5) [
                    | inl g ↦ at 2 4 5 6 e' f' g (omega arith) refl
                    | inr g ↦ at 2 4 6 7 e' f' (omega (arith, c.low, c.high, g)) (omega arith) refl
                  ]
            ]
      ]

  smallest_triple : (x y z : ℕ) → 1 ≤ x → x ≤ 2 → 3 ≤ y → y ≤ 4 → 5 ≤ z → z ≤ 6
      → IsMinimalYes from (axiom_set o large (x ∷ y ∷ z ∷ []))
  unfolding triple
  smallest_triple x y z a b c d e f =
      triple_smallest from (length o.axioms) large pairs (grows o.axioms q) x y z a b c d e f

  smallest_at : (place : ℕ) (d : Limited) → place < 8 → IsMinimalYes from (get_or eight place d)
  smallest_at zero d lt =
      smallest_triple 1 3 5 (omega arith) (omega arith) (omega arith) (omega arith) (omega arith) (omega arith)
  smallest_at (suc zero) d lt =
      smallest_triple 1 3 6 (omega arith) (omega arith) (omega arith) (omega arith) (omega arith) (omega arith)
  smallest_at (suc (suc zero)) d lt =
      smallest_triple 1 4 5 (omega arith) (omega arith) (omega arith) (omega arith) (omega arith) (omega arith)
  smallest_at (suc (suc (suc zero))) d lt =
      smallest_triple 1 4 6 (omega arith) (omega arith) (omega arith) (omega arith) (omega arith) (omega arith)
  smallest_at (suc (suc (suc (suc zero)))) d lt =
      smallest_triple 2 3 5 (omega arith) (omega arith) (omega arith) (omega arith) (omega arith) (omega arith)
  smallest_at (suc (suc (suc (suc (suc zero))))) d lt =
      smallest_triple 2 3 6 (omega arith) (omega arith) (omega arith) (omega arith) (omega arith) (omega arith)
  smallest_at (suc (suc (suc (suc (suc (suc zero)))))) d lt =
      smallest_triple 2 4 5 (omega arith) (omega arith) (omega arith) (omega arith) (omega arith) (omega arith)
  smallest_at (suc (suc (suc (suc (suc (suc (suc zero))))))) d lt =
      smallest_triple 2 4 6 (omega arith) (omega arith) (omega arith) (omega arith) (omega arith) (omega arith)
  smallest_at (suc (suc (suc (suc (suc (suc (suc (suc place)))))))) d lt = absurd (omega (arith, lt))

  limit_at : (lists : List (List ℕ)) (place : ℕ) (d : Limited) → place < length (sets_of o lists)
      → (get_or (sets_of o lists) place d).limit ≡ length o.axioms
  limit_at [] place d lt = absurd (omega (arith, lt))
  limit_at (ks ∷ more) zero d lt = refl
  limit_at (ks ∷ more) (suc place) d lt = limit_at more place d (omega (arith, lt))

  pub all_eight : HasAll Justifications o q eight
  all_eight = record {
    order = ascending o large one_of_each eight_short eight_ascend;
    all = λ s. (
      λ at. to_justification o q s
          (subst (λ (x : Limited). x.limit ≡ length o.axioms) at.2 (limit_at one_of_each at.0 s at.1))
          (subst (IsMinimalYes from) at.2 (smallest_at at.0 s at.1)),
      λ x. listed_triple s x.limit_is
          (smallest_is from (length o.axioms) large pairs (grows o.axioms q) s (from_justification o q s x)),
    );
  }

  smallest_pair : (k : ℕ) → 1 ≤ k → k ≤ 5 → ((s : NumberSet) → HasOneOfEach s → HasOneOf s k (k + 1)) → 1 ≢ k + 1
      → 3 ≢ k + 1 → 5 ≢ k + 1 → IsMinimalRemoval from (axiom_set o large (k ∷ (k + 1) ∷ []))
  unfolding pair
  smallest_pair k a b pick c d e = pair_smallest from (length o.axioms) large pairs (grows o.axioms q) k a b pick c d e

  removal_at : (place : ℕ) (d : Limited) → place < 3 → IsMinimalRemoval from (get_or three place d)
  removal_at zero d lt =
      smallest_pair 1 (omega arith) (omega arith) (λ s has. has.first) (λ e. absurd (omega (arith, e)))
      (λ e. absurd (omega (arith, e))) (λ e. absurd (omega (arith, e)))
  removal_at (suc zero) d lt =
      smallest_pair 3 (omega arith) (omega arith) (λ s has. has.second) (λ e. absurd (omega (arith, e)))
      (λ e. absurd (omega (arith, e))) (λ e. absurd (omega (arith, e)))
  removal_at (suc (suc zero)) d lt =
      smallest_pair 5 (omega arith) (omega arith) (λ s has. has.third) (λ e. absurd (omega (arith, e)))
      (λ e. absurd (omega (arith, e))) (λ e. absurd (omega (arith, e)))
  removal_at (suc (suc (suc place))) d lt = absurd (omega (arith, lt))

  pair_at : (r : Limited) → r.limit ≡ length o.axioms → (k place : ℕ) → r.members ≡ pair k → place < 3
      → get_or three place r ≡ axiom_set o large (k ∷ (k + 1) ∷ []) → Contains three r
  unfolding pair
  pair_at r limit k place is lt at = (place, lt, at ∙ (λ i. record { limit = sym limit i; members = sym is i }))

  pub all_three : HasAll Repairs o q three
  all_three = record {
    order = ascending o large three_pairs three_are_short three_ascend;
    all = λ r. (
      λ at. to_repair o q r (subst (λ (x : Limited). x.limit ≡ length o.axioms) at.2 (limit_at three_pairs at.0 r at.1))
          (subst (IsMinimalRemoval from) at.2 (removal_at at.0 r at.1)),
      λ x. elim (removal_is from (length o.axioms) large pairs (grows o.axioms q) r x.limit_is (from_repair o q r x)) [
        | inl e ↦ pair_at r x.limit_is 1 0 e (omega arith) refl
        | inr more ↦ elim more [
          | inl e ↦ pair_at r x.limit_is 3 1 e (omega arith) refl
          | inr e ↦ pair_at r x.limit_is 5 2 e (omega arith) refl
        ]
      ],
    );
  }

-- ---- of each workload

seven_at_least : (n : ℕ) → 7 ≤ length (workload_axioms n)
seven_at_least zero = let e : length (workload_axioms zero) ≡ 7 = refl in omega (arith, e)
seven_at_least (suc n) = omega (arith, seven_at_least n, length-append (workload_axioms n) (group_axioms (n + 1)))

length_mapped : (xs : List Numbered) → length (map (λ (a : Numbered). a.axiom) xs) ≡ length xs
length_mapped [] = refl
length_mapped (x ∷ xs) = omega (arith, length_mapped xs)

axiom_count : (n : ℕ) (o : Listed) (q : Asked) → n ≤ 4000 → IsQuestion (follows workload_query) (workload_text n) o q
    → length o.axioms ≡ length (workload_axioms n)
axiom_count n o q few is =
    let w : IsWorkload n (workload_text n) = workloads_are_documents n few in
    let same = questions (follows workload_query) (workload_text n) o w.read q wanted is (workload_question n few) in
    ap (λ (l : Listed). length l.axioms) same.0 ∙ sym (length_mapped w.read.axioms) ∙ ap length w.axioms

pub eight_and_three : OfWorkloads HasEightAndThree
eight_and_three n o q few is =
    let large : 6 ≤ length o.axioms = omega (arith, axiom_count n o q few is, seven_at_least n) in
    let pairs : (s : NumberSet) → FollowsFrom o.axioms q s ↔ HasOneOfEach s = by_pairs n o q few is in
    record { justifications = all_eight o q large pairs; repairs = all_three o q large pairs }

count_done : (number budget : ℕ) (o : Listed) (q : Asked) (log : List Entry) (out : List ℕ) (b : Bool)
    → Done ≡ end_status b → IsCount number o q budget log out b → AreCounted number o q log out
count_done number budget o q log out true e count = count
count_done number budget o q log out false e count = absurd (cc e)

pub counted : WorkloadsCountEightAndThree
counted number budget out log few x =
    let o = x.ontology in
    let q = x.query in
    let both = eight_and_three number o q few x.is_question in
    let c = count_done number budget o q log out x.counted.finished x.counted.status x.counted.count in
    let eight_are : c.justifications ≡ sets_of o one_of_each =
    same_lists c.justifications (sets_of o one_of_each) c.all_justifications.order both.justifications.order
    (λ s. (
      (λ h. (both.justifications.all s).1 ((c.all_justifications.all s).0 h)),
      (λ h. (c.all_justifications.all s).1 ((both.justifications.all s).0 h)),
    )) in
    let three_are : c.repairs ≡ sets_of o three_pairs =
    same_lists c.repairs (sets_of o three_pairs) c.all_repairs.order both.repairs.order
    (λ s. (
      (λ h. (both.repairs.all s).1 ((c.all_repairs.all s).0 h)),
      (λ h. (c.all_repairs.all s).1 ((both.repairs.all s).0 h)),
    )) in
    c.text ∙ (λ i. counts_text number (axiom_count number o q few x.is_question i) (length (eight_are i))
    (length (three_are i)))
