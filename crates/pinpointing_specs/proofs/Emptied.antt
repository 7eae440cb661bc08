-- An interpretation whose names outside a signature are emptied: what is void is empty in it and what is whole is all,
-- local axioms are met, and nothing changes for what has no name outside.
use Rattle.std.proofs.Common.{◌≡◌, ℕ, zero, suc, ◌+◌, ◌≤◌, Bool, true, false, not, ◌&&◌, ◌||◌, cond, eqb, leb, List, []}
use Rattle.std.proofs.Common.{◌∷◌, ◌++◌, map, refl, ap, sym, ◌∙◌, arith, inl, inr}
use Rattle.std.specs.Prelude.{nat_le, count_by}
use Rattle.std.specs.List.{list_all}
use Rattle.std.proofs.lemmas.Bool.{and_parts, and_from, and_left, and_right, or_cases, or_left, or_right, or_from}
use Rattle.std.proofs.lemmas.Bool.{not-true, leb-true, le-leb, lt-leb, eq-eqb, ne_eqb, true≢false}
use Rattle.std.proofs.lemmas.List.Folds.{list_all-append}
use Rattle.std.proofs.lemmas.List.Sums.{sum_by-cons}
use Rattle.shq_meaning.specs.Concept.{Concept, top, bottom, name, complement, intersection, union, some_of, all_of}
use Rattle.shq_meaning.specs.Concept.{at_least, at_most, exactly, Parts, no_parts, part, parts_of}
use Rattle.shq_meaning.specs.Axiom.{Axiom}
use Rattle.shq_meaning.specs.Axiom.TheVariants.{SubClassOf, EquivalentClasses, DisjointClasses}
use Rattle.shq_meaning.specs.Axiom.TheVariants.{DisjointUnion, SubRole, EquivalentRoles, Domain, Range}
use Rattle.shq_meaning.specs.Axiom.TheVariants.{Functional, Transitive, Member, Pair, SameAll, Different}
use Rattle.shq_meaning.specs.On.{On}
use Rattle.shq_meaning.specs.On.TheVariants.{Any, Individual}
use Rattle.shq_meaning.specs.Query.{Query}
use Rattle.shq_meaning.specs.Below.{all_below, count_below}
use Rattle.shq_meaning.specs.Truth.{Interpretation, implies, same, successors, each_successor, holds, hold_all}
use Rattle.shq_meaning.specs.Truth.{hold_any, all_same, none_twice, included, out_degree, differs_from_all}
use Rattle.shq_meaning.specs.Truth.{are_different, meets, is_asked_at, refutes_at}
use Rattle.shq_meaning.proofs.Implied.{implies_false, implies_true}
use Rattle.pinpointing_specs.specs.declared.module_laws.Name.{Name}
use Rattle.pinpointing_specs.specs.declared.module_laws.Name.TheVariants.{Class, Role}
use Rattle.pinpointing_specs.specs.Signature.{concept_names, parts_names, axiom_names, query_names}
use Rattle.pinpointing_specs.specs.Local.{is_void, is_whole, some_void, all_void, some_whole, all_whole, count_not_void}
use Rattle.pinpointing_specs.specs.Local.{is_local}

-- the same elements and individuals, and no class or role outside has a member
abbrev pub emptied : (Name → Bool) → Interpretation → Interpretation
emptied inside i = record {
  size = i.size;
  in_class = λ a x. inside (Class a) && i.in_class a x;
  in_role = λ r x y. inside (Role r) && i.in_role r x y;
  individual = i.individual;
}

-- ---- tests of the numbers below a bound

abbrev one : Bool → ℕ
one b = cond b 1 0

all_each : (n : ℕ) (p : ℕ → Bool) → ((y : ℕ) → p y ≡ true) → all_below n p ≡ true
all_each zero p each = refl
all_each (suc n) p each = and_from (all_below n p) (p n) (all_each n p each) (each n)

count_none : (n : ℕ) (p : ℕ → Bool) → ((y : ℕ) → p y ≡ false) → count_below n p ≡ 0
count_none zero p none = refl
count_none (suc n) p none = let here : one (p n) ≡ 0 = ap one (none n) in omega (arith, here, count_none n p none)

counted : {A : Type 0} (p : A → Bool) (a : A) (as_ : List A) → count_by p (a ∷ as_) ≡ one (p a) + count_by p as_
counted p a as_ = sum_by-cons (λ b. one (p b)) a as_

same_none : (a b : Bool) → a ≡ false → b ≡ false → same a b ≡ true
same_none a b e f = rw (e, f) refl

module _ (inside : Name → Bool) (i : Interpretation) where
  abbrev e : Interpretation
  e = emptied inside i

  no_pair : (r x y : ℕ) → not (inside (Role r)) ≡ true → e.in_role r x y ≡ false
  no_pair r x y out = and_left (inside (Role r)) (i.in_role r x y) (not-true (inside (Role r)) out)

  no_successor : (r : ℕ) (p : ℕ → Bool) (x : ℕ) → (not (inside (Role r)) ≡ true) → successors e r p x ≡ 0
  no_successor r p x out =
      count_none i.size (λ y. e.in_role r x y && p y) (λ y. and_left (e.in_role r x y) (p y) (no_pair r x y out))

  no_filler : (r : ℕ) (p : ℕ → Bool) (x : ℕ) → ((y : ℕ) → p y ≡ false) → successors e r p x ≡ 0
  no_filler r p x none =
      count_none i.size (λ y. e.in_role r x y && p y) (λ y. and_right (e.in_role r x y) (p y) (none y))

  by_outside : (r : ℕ) (p : ℕ → Bool) (x : ℕ) → not (inside (Role r)) ≡ true → each_successor e r p x ≡ true
  by_outside r p x out =
      all_each i.size (λ y. implies (e.in_role r x y) (p y))
      (λ y. implies_false (e.in_role r x y) (p y) (no_pair r x y out))

  by_whole : (r : ℕ) (p : ℕ → Bool) (x : ℕ) → ((y : ℕ) → p y ≡ true) → each_successor e r p x ≡ true
  by_whole r p x each =
      all_each i.size (λ y. implies (e.in_role r x y) (p y)) (λ y. implies_true (e.in_role r x y) (p y) (each y))

  no_degree : (r x : ℕ) → not (inside (Role r)) ≡ true → out_degree e r x ≡ 0
  no_degree r x out = count_none i.size (λ y. e.in_role r x y) (λ y. no_pair r x y out)

  -- ---- void and whole

  none_counted : (r : ℕ) (c : Concept) → (is_void inside c ≡ true → (y : ℕ) → holds e c y ≡ false)
      → (not (inside (Role r)) || is_void inside c) ≡ true → (x : ℕ) → successors e r (holds e c) x ≡ 0
  none_counted r c empty h x =
      elim (or_cases (not (inside (Role r))) (is_void inside c) h) [
        | inl out ↦ no_successor r (holds e c) x out
        | inr void ↦ no_filler r (holds e c) x (empty void)
      ]

  mutual
    pub void_is_empty : (c : Concept) → is_void inside c ≡ true → (x : ℕ) → holds e c x ≡ false
    void_is_empty top h x = absurd (true≢false (sym h))
    void_is_empty bottom h x = refl
    void_is_empty (name a) h x = and_left (inside (Class a)) (i.in_class a x) (not-true (inside (Class a)) h)
    void_is_empty (complement c) h x = ap not (whole_is_all c h x)
    void_is_empty (intersection cs) h x = some_void_is_empty cs h x
    void_is_empty (union cs) h x = all_void_is_empty cs h x
    void_is_empty (some_of r c) h x = ap (leb 1) (none_counted r c (void_is_empty c) h x)
    void_is_empty (all_of r c) h x = absurd (true≢false (sym h))
    void_is_empty (at_least n r c) h x =
        let both = and_parts (nat_le 1 n) (not (inside (Role r)) || is_void inside c) h in
        let few = none_counted r c (void_is_empty c) both.1 x in
        lt-leb n (successors e r (holds e c) x) (omega (arith, few, leb-true 1 n both.0))
    void_is_empty (at_most n r c) h x = absurd (true≢false (sym h))
    void_is_empty (exactly n r c) h x =
        let both = and_parts (nat_le 1 n) (not (inside (Role r)) || is_void inside c) h in
        let few = none_counted r c (void_is_empty c) both.1 x in
        ne_eqb (successors e r (holds e c) x) n (λ equal. omega (arith, few, equal, leb-true 1 n both.0))

    pub whole_is_all : (c : Concept) → is_whole inside c ≡ true → (x : ℕ) → holds e c x ≡ true
    whole_is_all top h x = refl
    whole_is_all bottom h x = absurd (true≢false (sym h))
    whole_is_all (name a) h x = absurd (true≢false (sym h))
    whole_is_all (complement c) h x = ap not (void_is_empty c h x)
    whole_is_all (intersection cs) h x = all_whole_is_all cs h x
    whole_is_all (union cs) h x = some_whole_is_all cs h x
    whole_is_all (some_of r c) h x = absurd (true≢false (sym h))
    whole_is_all (all_of r c) h x =
        elim (or_cases (not (inside (Role r))) (is_whole inside c) h) [
          | inl out ↦ by_outside r (holds e c) x out
          | inr whole ↦ by_whole r (holds e c) x (whole_is_all c whole)
        ]
    whole_is_all (at_least n r c) h x = le-leb n (successors e r (holds e c) x) (omega (arith, leb-true n 0 h))
    whole_is_all (at_most n r c) h x =
        let few = none_counted r c (void_is_empty c) h x in le-leb (successors e r (holds e c) x) n (omega (arith, few))
    whole_is_all (exactly n r c) h x =
        let both = and_parts (nat_le n 0) (not (inside (Role r)) || is_void inside c) h in
        let few = none_counted r c (void_is_empty c) both.1 x in
        eq-eqb (successors e r (holds e c) x) n (omega (arith, few, leb-true n 0 both.0))

    some_void_is_empty : (cs : Parts) → some_void inside cs ≡ true → (x : ℕ) → hold_all e cs x ≡ false
    some_void_is_empty no_parts h x = absurd (true≢false (sym h))
    some_void_is_empty (part c cs) h x =
        elim (or_cases (is_void inside c) (some_void inside cs) h) [
          | inl here ↦ and_left (holds e c x) (hold_all e cs x) (void_is_empty c here x)
          | inr later ↦ and_right (holds e c x) (hold_all e cs x) (some_void_is_empty cs later x)
        ]

    pub all_void_is_empty : (cs : Parts) → all_void inside cs ≡ true → (x : ℕ) → hold_any e cs x ≡ false
    all_void_is_empty no_parts h x = refl
    all_void_is_empty (part c cs) h x =
        let both = and_parts (is_void inside c) (all_void inside cs) h in
        or_from (holds e c x) (hold_any e cs x) (void_is_empty c both.0 x) (all_void_is_empty cs both.1 x)

    some_whole_is_all : (cs : Parts) → some_whole inside cs ≡ true → (x : ℕ) → hold_any e cs x ≡ true
    some_whole_is_all no_parts h x = absurd (true≢false (sym h))
    some_whole_is_all (part c cs) h x =
        elim (or_cases (is_whole inside c) (some_whole inside cs) h) [
          | inl here ↦ or_left (holds e c x) (hold_any e cs x) (whole_is_all c here x)
          | inr later ↦ or_right (holds e c x) (hold_any e cs x) (some_whole_is_all cs later x)
        ]

    all_whole_is_all : (cs : Parts) → all_whole inside cs ≡ true → (x : ℕ) → hold_all e cs x ≡ true
    all_whole_is_all no_parts h x = refl
    all_whole_is_all (part c cs) h x =
        let both = and_parts (is_whole inside c) (all_whole inside cs) h in
        and_from (holds e c x) (hold_all e cs x) (whole_is_all c both.0 x) (all_whole_is_all cs both.1 x)

  -- ---- local axioms

  at_most_one : (b : Bool) → one b ≤ 1
  at_most_one true = omega arith
  at_most_one false = omega arith

  one_held : (c : Concept) (x : ℕ) (b : Bool) → is_void inside c ≡ b → one (holds e c x) ≤ one (not (is_void inside c))
  one_held c x true h = let none : one (holds e c x) ≡ 0 = ap one (void_is_empty c h x) in omega (arith, none)
  one_held c x false h =
      let some : one (not (is_void inside c)) ≡ 1 = ap (λ (b : Bool). one (not b)) h in
      omega (arith, some, at_most_one (holds e c x))

  -- no more are counted than are not void
  few_hold : (cs : List Concept) (x : ℕ) → count_by (λ c. holds e c x) cs ≤ count_not_void inside cs
  few_hold [] x = omega arith
  few_hold (c ∷ cs) x = omega (
    arith,
    counted (λ d. holds e d x) c cs,
    counted (λ d. not (is_void inside d)) c cs,
    one_held c x (is_void inside c) refl,
    few_hold cs x,
  )

  outside_included : (r s : ℕ) → not (inside (Role r)) ≡ true → included e r s ≡ true
  outside_included r s out =
      all_each i.size (λ x. all_below i.size (λ y. implies (e.in_role r x y) (e.in_role s x y)))
      (λ x. all_each i.size (λ y. implies (e.in_role r x y) (e.in_role s x y))
      (λ y. implies_false (e.in_role r x y) (e.in_role s x y) (no_pair r x y out)))

  outside_equal : (r : ℕ) → not (inside (Role r)) ≡ true → (rs : List ℕ)
      → list_all (λ s. not (inside (Role s))) rs ≡ true → list_all (λ s. included e r s && included e s r) rs ≡ true
  outside_equal r out [] h = refl
  outside_equal r out (s ∷ ss) h =
      let both = and_parts (not (inside (Role s))) (list_all (λ q. not (inside (Role q))) ss) h in
      and_from (included e r s && included e s r) (list_all (λ q. included e r q && included e q r) ss)
      (and_from (included e r s) (included e s r) (outside_included r s out) (outside_included s r both.0))
      (outside_equal r out ss both.1)

  pub local_is_met : (a : Axiom) → is_local inside a ≡ true → meets e a ≡ true
  local_is_met (SubClassOf c d) h =
      all_each i.size (λ x. implies (holds e c x) (holds e d x))
      (λ x. elim (or_cases (is_void inside c) (is_whole inside d) h) [
        | inl void ↦ implies_false (holds e c x) (holds e d x) (void_is_empty c void x)
        | inr whole ↦ implies_true (holds e c x) (holds e d x) (whole_is_all d whole x)
      ])
  local_is_met (EquivalentClasses cs) h =
      all_each i.size (λ x. all_same e cs x)
      (λ x. elim (or_cases (all_void inside (parts_of cs)) (all_whole inside (parts_of cs)) h) [
        | inl void ↦
            implies_false (hold_any e (parts_of cs) x) (hold_all e (parts_of cs) x)
            (all_void_is_empty (parts_of cs) void x)
        | inr whole ↦
            implies_true (hold_any e (parts_of cs) x) (hold_all e (parts_of cs) x)
            (all_whole_is_all (parts_of cs) whole x)
      ])
  local_is_met (DisjointClasses cs) h =
      all_each i.size (λ x. none_twice e cs x)
      (λ x. le-leb (count_by (λ c. holds e c x) cs) 1
      (omega (arith, few_hold cs x, leb-true (count_not_void inside cs) 1 h)))
  local_is_met (DisjointUnion c cs) h =
      let both = and_parts (is_void inside c) (all_void inside (parts_of cs)) h in
      all_each i.size (λ x. same (holds e c x) (hold_any e (parts_of cs) x) && none_twice e cs x)
      (λ x. and_from (same (holds e c x) (hold_any e (parts_of cs) x)) (none_twice e cs x)
      (same_none (holds e c x) (hold_any e (parts_of cs) x) (void_is_empty c both.0 x)
      (all_void_is_empty (parts_of cs) both.1 x))
      (le-leb (count_by (λ d. holds e d x) cs) 1 (omega (arith, few_hold cs x, none_left cs both.1))))
    where
      none_left : (ds : List Concept) → all_void inside (parts_of ds) ≡ true → count_not_void inside ds ≡ 0
      none_left [] k = refl
      none_left (d ∷ ds) k =
          let parts = and_parts (is_void inside d) (all_void inside (parts_of ds)) k in
          let here : one (not (is_void inside d)) ≡ 0 = ap (λ (b : Bool). one (not b)) parts.0 in
          omega (arith, here, counted (λ c'. not (is_void inside c')) d ds, none_left ds parts.1)
  local_is_met (SubRole r s) h = outside_included r s h
  local_is_met (EquivalentRoles []) h = refl
  local_is_met (EquivalentRoles (r ∷ rs)) h =
      outside_equal r (and_parts (not (inside (Role r))) (list_all (λ s. not (inside (Role s))) rs) h).0 (r ∷ rs) h
  local_is_met (Domain r c) h =
      all_each i.size (λ x. implies (nat_le 1 (out_degree e r x)) (holds e c x))
      (λ x. elim (or_cases (not (inside (Role r))) (is_whole inside c) h) [
        | inl out ↦ implies_false (nat_le 1 (out_degree e r x)) (holds e c x) (ap (nat_le 1) (no_degree r x out))
        | inr whole ↦ implies_true (nat_le 1 (out_degree e r x)) (holds e c x) (whole_is_all c whole x)
      ])
  local_is_met (Range r c) h =
      all_each i.size (λ x. each_successor e r (holds e c) x)
      (λ x. elim (or_cases (not (inside (Role r))) (is_whole inside c) h) [
        | inl out ↦ by_outside r (holds e c) x out
        | inr whole ↦ by_whole r (holds e c) x (whole_is_all c whole)
      ])
  local_is_met (Functional r) h =
      all_each i.size (λ x. nat_le (out_degree e r x) 1) (λ x. ap (λ (n : ℕ). nat_le n 1) (no_degree r x h))
  local_is_met (Transitive r) h =
      all_each i.size
      (λ x. all_below i.size
      (λ y. implies (e.in_role r x y) (all_below i.size (λ z. implies (e.in_role r y z) (e.in_role r x z)))))
      (λ x. all_each i.size
      (λ y. implies (e.in_role r x y) (all_below i.size (λ z. implies (e.in_role r y z) (e.in_role r x z))))
      (λ y. implies_false (e.in_role r x y) (all_below i.size (λ z. implies (e.in_role r y z) (e.in_role r x z)))
      (no_pair r x y h)))
  local_is_met (Member c a) h = absurd (true≢false (sym h))
  local_is_met (Pair r a b) h = absurd (true≢false (sym h))
  local_is_met (SameAll as_) h = absurd (true≢false (sym h))
  local_is_met (Different as_) h = absurd (true≢false (sym h))

  -- ---- what has no name outside

  same_role : (r : ℕ) → inside (Role r) ≡ true → e.in_role r ≡ i.in_role r
  same_role r h = λ j x y. h j && i.in_role r x y

  split : (ms ns : List Name) → list_all inside (ms ++ ns) ≡ true
      → (list_all inside ms ≡ true) × (list_all inside ns ≡ true)
  split ms ns h = and_parts (list_all inside ms) (list_all inside ns) (sym (list_all-append inside ms ns) ∙ h)

  same_count : (r : ℕ) (c : Concept) → (list_all inside (concept_names c) ≡ true → holds e c ≡ holds i c)
      → (inside (Role r) && list_all inside (concept_names c)) ≡ true
      → successors e r (holds e c) ≡ successors i r (holds i c)
  same_count r c alike h =
      let both = and_parts (inside (Role r)) (list_all inside (concept_names c)) h in
      let f = same_role r both.0 in
      let g = alike both.1 in
      λ j x. count_below i.size (λ y. f j x y && g j y)

  mutual
    pub same_truth : (c : Concept) → list_all inside (concept_names c) ≡ true → holds e c ≡ holds i c
    same_truth top h = refl
    same_truth bottom h = refl
    same_truth (name a) h = let here = and_parts (inside (Class a)) true h in λ j x. here.0 j && i.in_class a x
    same_truth (complement c) h = let f = same_truth c h in λ j x. not (f j x)
    same_truth (intersection cs) h = same_all cs h
    same_truth (union cs) h = same_any cs h
    same_truth (some_of r c) h = let f = same_count r c (same_truth c) h in λ j x. leb 1 (f j x)
    same_truth (all_of r c) h =
        let both = and_parts (inside (Role r)) (list_all inside (concept_names c)) h in
        let f = same_role r both.0 in
        let g = same_truth c both.1 in
        λ j x. all_below i.size (λ y. implies (f j x y) (g j y))
    same_truth (at_least n r c) h = let f = same_count r c (same_truth c) h in λ j x. leb n (f j x)
    same_truth (at_most n r c) h = let f = same_count r c (same_truth c) h in λ j x. leb (f j x) n
    same_truth (exactly n r c) h = let f = same_count r c (same_truth c) h in λ j x. eqb (f j x) n

    pub same_all : (cs : Parts) → list_all inside (parts_names cs) ≡ true → hold_all e cs ≡ hold_all i cs
    same_all no_parts h = refl
    same_all (part c cs) h =
        let both = split (concept_names c) (parts_names cs) h in
        let f = same_truth c both.0 in
        let g = same_all cs both.1 in
        λ j x. f j x && g j x

    pub same_any : (cs : Parts) → list_all inside (parts_names cs) ≡ true → hold_any e cs ≡ hold_any i cs
    same_any no_parts h = refl
    same_any (part c cs) h =
        let both = split (concept_names c) (parts_names cs) h in
        let f = same_truth c both.0 in
        let g = same_any cs both.1 in
        λ j x. f j x || g j x

  abbrev places_in : Interpretation → List Concept → ℕ → ℕ
  places_in k cs x = count_by (λ c. holds k c x) cs

  same_places : (cs : List Concept) → list_all inside (parts_names (parts_of cs)) ≡ true
      → places_in e cs ≡ places_in i cs
  same_places [] h = refl
  same_places (c ∷ cs) h =
      let both = split (concept_names c) (parts_names (parts_of cs)) h in
      let f = same_truth c both.0 in
      let g = same_places cs both.1 in
      λ j x. (counted (λ d. holds e d x) c cs ∙ (λ k. one (f k x) + g k x) ∙ sym (counted (λ d. holds i d x) c cs)) j

  same_included : (r s : ℕ) → inside (Role r) ≡ true → inside (Role s) ≡ true → included e r s ≡ included i r s
  same_included r s h k =
      let f = same_role r h in
      let g = same_role s k in
      λ j. all_below i.size (λ x. all_below i.size (λ y. implies (f j x y) (g j x y)))

  same_equal : (r : ℕ) → inside (Role r) ≡ true → (rs : List ℕ) → list_all inside (map Role rs) ≡ true
      → list_all (λ s. included e r s && included e s r) rs ≡ list_all (λ s. included i r s && included i s r) rs
  same_equal r h [] k = refl
  same_equal r h (s ∷ ss) k =
      let both = and_parts (inside (Role s)) (list_all inside (map Role ss)) k in
      let f = same_included r s h both.0 in
      let g = same_included s r both.0 h in
      let rest = same_equal r h ss both.1 in
      λ j. (f j && g j) && rest j

  -- the individuals are the same elements
  same_different : (as_ : List ℕ) → are_different e as_ ≡ are_different i as_
  same_different [] = refl
  same_different (a ∷ as_) = ap (λ b. differs_from_all i a as_ && b) (same_different as_)

  pub same_met : (a : Axiom) → list_all inside (axiom_names a) ≡ true → meets e a ≡ meets i a
  same_met (SubClassOf c d) h =
      let both = split (concept_names c) (concept_names d) h in
      let f = same_truth c both.0 in
      let g = same_truth d both.1 in
      λ j. all_below i.size (λ x. implies (f j x) (g j x))
  same_met (EquivalentClasses cs) h =
      let f = same_any (parts_of cs) h in
      let g = same_all (parts_of cs) h in
      λ j. all_below i.size (λ x. implies (f j x) (g j x))
  same_met (DisjointClasses cs) h = let f = same_places cs h in λ j. all_below i.size (λ x. nat_le (f j x) 1)
  same_met (DisjointUnion c cs) h =
      let both = split (concept_names c) (parts_names (parts_of cs)) h in
      let f = same_truth c both.0 in
      let g = same_any (parts_of cs) both.1 in
      let k = same_places cs both.1 in
      λ j. all_below i.size (λ x. same (f j x) (g j x) && nat_le (k j x) 1)
  same_met (SubRole r s) h =
      let both = and_parts (inside (Role r)) (inside (Role s) && true) h in
      same_included r s both.0 (and_parts (inside (Role s)) true both.1).0
  same_met (EquivalentRoles []) h = refl
  same_met (EquivalentRoles (r ∷ rs)) h =
      same_equal r (and_parts (inside (Role r)) (list_all inside (map Role rs)) h).0 (r ∷ rs) h
  same_met (Domain r c) h =
      let both = and_parts (inside (Role r)) (list_all inside (concept_names c)) h in
      let f = same_role r both.0 in
      let g = same_truth c both.1 in
      λ j. all_below i.size (λ x. implies (nat_le 1 (count_below i.size (λ y. f j x y))) (g j x))
  same_met (Range r c) h =
      let both = and_parts (inside (Role r)) (list_all inside (concept_names c)) h in
      let f = same_role r both.0 in
      let g = same_truth c both.1 in
      λ j. all_below i.size (λ x. all_below i.size (λ y. implies (f j x y) (g j y)))
  same_met (Functional r) h =
      let f = same_role r (and_parts (inside (Role r)) true h).0 in
      λ j. all_below i.size (λ x. nat_le (count_below i.size (λ y. f j x y)) 1)
  same_met (Transitive r) h =
      let f = same_role r (and_parts (inside (Role r)) true h).0 in
      λ j. all_below i.size
      (λ x. all_below i.size (λ y. implies (f j x y) (all_below i.size (λ z. implies (f j y z) (f j x z)))))
  same_met (Member c a) h = let f = same_truth c h in λ j. f j (i.individual a)
  same_met (Pair r a b) h =
      let f = same_role r (and_parts (inside (Role r)) true h).0 in
      λ j. f j (i.individual a) (i.individual b)
  same_met (SameAll as_) h = refl
  same_met (Different as_) h = same_different as_

  same_asked : (on : On) (x : ℕ) → is_asked_at e on x ≡ is_asked_at i on x
  same_asked Any x = refl
  same_asked (Individual a) x = refl

  pub same_refuted : (q : Query) → list_all inside (query_names q) ≡ true → (x : ℕ)
      → refutes_at e q x ≡ refutes_at i q x
  same_refuted q h x =
      let both = split (concept_names q.sub) (concept_names q.sup) h in
      let f = same_truth q.sub both.0 in
      let g = same_truth q.sup both.1 in
      let asked = same_asked q.on x in
      λ j. asked j && (f j x && not (g j x))
