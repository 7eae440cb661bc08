-- An axiom that is neither of roles alone nor of individuals is met where its parts are.
use Rattle.std.proofs.Common.{◌≡◌, ℕ, zero, suc, ◌+◌, Bool, true, false, not, ◌&&◌, ◌||◌, cond, leb, List, [], ◌∷◌, map}
use Rattle.std.proofs.Common.{refl, ap, sym, ◌∙◌, arith}
use Rattle.std.specs.List.{list_all, count_by}
use Rattle.std.proofs.lemmas.Bool.{le-leb, lt-leb}
use Rattle.std.proofs.lemmas.List.Folds.{list_all-append}
use Rattle.std.proofs.lemmas.List.Sums.{sum_by-cons}
use Rattle.std.proofs.Math.Bool.{and_assoc, and-true, or-false, and-false, or-true}
use Rattle.shq_meaning.specs.Concept.{Concept, top, bottom, name, complement, intersection, union, some_of, all_of}
use Rattle.shq_meaning.specs.Concept.{at_least, at_most, exactly, Parts, no_parts, part, parts_of, part_list}
use Rattle.shq_meaning.proofs.Bools.{and_exchange}
use Rattle.shq_meaning.specs.Axiom.{Axiom}
use Rattle.shq_meaning.specs.Axiom.TheVariants.{SubClassOf, EquivalentClasses, DisjointClasses, DisjointUnion, SubRole}
use Rattle.shq_meaning.specs.Axiom.TheVariants.{EquivalentRoles, Domain, Range, Functional, Transitive, Member, Pair}
use Rattle.shq_meaning.specs.Axiom.TheVariants.{SameAll, Different}
use Rattle.calculus_specs.specs.Normal.{normal_form}
use Rattle.calculus_specs.specs.Rows.{Part, inclusion, range, conjuncts_in, inclusion_of, range_of}
use Rattle.shq_meaning.specs.Below.{all_below, count_below}
use Rattle.shq_meaning.specs.Truth.{Interpretation, implies, same, each_successor, holds, hold_all, hold_any, all_same}
use Rattle.shq_meaning.specs.Truth.{none_twice, out_degree, meets}
use Rattle.shq_nnf.specs.Parts.{disjoint_pair, disjoint_parts, chain_parts, equivalent_parts, union_parts, axiom_parts}
use Rattle.shq_nnf.specs.Meeting.{meets_part, meets_parts, is_role_axiom, is_assertion}
use Rattle.shq_nnf.proofs.Truth.{some_is_some, some_cond, normal_truth}

-- ---- tests below a bound

all_below_true : (n : ℕ) → all_below n (λ x. true) ≡ true
all_below_true zero = refl
all_below_true (suc n) = ap (λ b. b && true) (all_below_true n)

all_below_both : (n : ℕ) (p q : ℕ → Bool) → all_below n (λ x. p x && q x) ≡ (all_below n p && all_below n q)
all_below_both zero p q = refl
all_below_both (suc n) p q =
    ap (λ b. b && (p n && q n)) (all_below_both n p q) ∙ and_exchange (all_below n p) (all_below n q) (p n) (q n)

-- at most one in all: none after the first that counts, and at most one after it
one_more : (b : Bool) (k : ℕ) → leb (cond b 1 0 + k) 1 ≡ (implies b (not (leb 1 k)) && leb k 1)
one_more false k = ap (λ n. leb n 1) (omega arith)
one_more true zero = refl
one_more true (suc k) =
    lt-leb (1 + suc k) 1 (omega arith)
    ∙ sym (ap (λ b. implies true (not b) && leb (suc k) 1) (le-leb 1 (suc k) (omega arith)))

module _ (i : Interpretation) where
  -- what a part asks of one element
  abbrev obeys : Part → ℕ → Bool
  obeys (inclusion cs d) x = implies (list_all (λ c. holds i c x) cs) (holds i d x)
  obeys (range r d) x = each_successor i r (holds i d) x

  met_by_each : (p : Part) → meets_part i p ≡ all_below i.size (obeys p)
  met_by_each (inclusion cs d) = refl
  met_by_each (range r d) = refl

  all_met : (ps : List Part) → meets_parts i ps ≡ all_below i.size (λ x. list_all (λ p. obeys p x) ps)
  all_met [] = sym (all_below_true i.size)
  all_met (p ∷ ps) =
      let head = met_by_each p in
      let tail = all_met ps in
      (λ j. head j && tail j) ∙ sym (all_below_both i.size (obeys p) (λ x. list_all (λ q. obeys q x) ps))

  -- ---- at one element
  module _ (x : ℕ) where
    abbrev is_in : Concept → Bool
    is_in c = holds i c x

    abbrev in_all : List Concept → Bool
    in_all cs = hold_all i (parts_of cs) x

    abbrev in_any : List Concept → Bool
    in_any cs = hold_any i (parts_of cs) x

    abbrev obeyed : List Part → Bool
    obeyed ps = list_all (λ p. obeys p x) ps

    conjuncts_hold : (c : Concept) → list_all is_in (conjuncts_in c) ≡ is_in c
    conjuncts_hold top = refl
    conjuncts_hold (intersection cs) = by cs
      where
        by : (ds : Parts) → list_all is_in (part_list ds) ≡ hold_all i ds x
        by no_parts = refl
        by (part d ds) = ap (λ b. is_in d && b) (by ds)
    conjuncts_hold bottom = and-true (is_in bottom)
    conjuncts_hold (name a) = and-true (is_in (name a))
    conjuncts_hold (complement c) = and-true (is_in (complement c))
    conjuncts_hold (union cs) = and-true (is_in (union cs))
    conjuncts_hold (some_of r c) = and-true (is_in (some_of r c))
    conjuncts_hold (all_of r c) = and-true (is_in (all_of r c))
    conjuncts_hold (at_least n r c) = and-true (is_in (at_least n r c))
    conjuncts_hold (at_most n r c) = and-true (is_in (at_most n r c))
    conjuncts_hold (exactly n r c) = and-true (is_in (exactly n r c))

    inclusion_obeyed : (c d : Concept) → obeys (inclusion_of c d) x ≡ implies (is_in c) (is_in d)
    inclusion_obeyed c d =
        let left : list_all is_in (conjuncts_in (normal_form c)) ≡ is_in c =
        conjuncts_hold (normal_form c) ∙ normal_truth i c x in
        let right = normal_truth i d x in
        λ j. implies (left j) (right j)

    alone_obeyed : (c d : Concept) → obeyed (inclusion_of c d ∷ []) ≡ implies (is_in c) (is_in d)
    alone_obeyed c d = and-true (obeys (inclusion_of c d) x) ∙ inclusion_obeyed c d

    -- a chain that ends in a class without the element: it is in none
    chain_outside : (f : Concept) → is_in f ≡ false → (cs : List Concept) → obeyed (chain_parts f cs) ≡ not (in_any cs)
    chain_outside f e [] = refl
    chain_outside f e (c ∷ []) = alone_obeyed c f ∙ ap (implies (is_in c)) e ∙ by (is_in c)
      where
        by : (a : Bool) → implies a false ≡ not (a || false)
        by true = refl
        by false = refl
    chain_outside f e (c ∷ d ∷ ds) =
        let head = inclusion_obeyed c d in
        let tail = chain_outside f e (d ∷ ds) in
        (λ j. head j && tail j) ∙ by (is_in c) (is_in d) (in_any ds)
      where
        by : (a b v : Bool) → (implies a b && not (b || v)) ≡ not (a || (b || v))
        by true true v = refl
        by true false v = refl
        by false b v = refl

    -- one that begins and ends in classes with the element: it is in all
    chain_inside : (f : Concept) → is_in f ≡ true → (c : Concept) (cs : List Concept) → is_in c ≡ true
        → obeyed (chain_parts f (c ∷ cs)) ≡ in_all (c ∷ cs)
    chain_inside f e c [] g = alone_obeyed c f ∙ (λ j. implies (g j) (e j)) ∙ sym (ap (λ b. b && true) g)
    chain_inside f e c (d ∷ ds) g = by (is_in d) refl (chain_inside f e d ds)
      where
        by : (b : Bool) → is_in d ≡ b → (is_in d ≡ true → obeyed (chain_parts f (d ∷ ds)) ≡ in_all (d ∷ ds))
            → obeyed (chain_parts f (c ∷ d ∷ ds)) ≡ in_all (c ∷ d ∷ ds)
        by true h rest =
            let head : obeys (inclusion_of c d) x ≡ true = inclusion_obeyed c d ∙ (λ j. implies (g j) (h j)) in
            let tail = rest h in
            (λ j. head j && tail j) ∙ sym (ap (λ b. b && in_all (d ∷ ds)) g)
        by false h rest =
            let head : obeys (inclusion_of c d) x ≡ false = inclusion_obeyed c d ∙ (λ j. implies (g j) (h j)) in
            ap (λ b. b && obeyed (chain_parts f (d ∷ ds))) head ∙ sym (λ j. g j && (h j && in_all ds))

    equivalent_obeyed : (cs : List Concept) → obeyed (equivalent_parts cs) ≡ all_same i cs x
    equivalent_obeyed [] = refl
    equivalent_obeyed (c ∷ cs) = by (is_in c) refl
      where
        by : (b : Bool) → is_in c ≡ b
            → obeyed (chain_parts c (c ∷ cs)) ≡ implies (is_in c || in_any cs) (is_in c && in_all cs)
        by true e =
            chain_inside c e c cs e ∙ ap (λ b. b && in_all cs) e
            ∙ sym (ap (λ b. implies (b || in_any cs) (b && in_all cs)) e)
        by false e =
            chain_outside c e (c ∷ cs) ∙ ap (λ b. not (b || in_any cs)) e
            ∙ sym (ap (λ b. implies (b || in_any cs) (b && in_all cs)) e ∙ or-false (not (in_any cs)))

    all_apart : (c : Concept) (cs : List Concept)
        → obeyed (map (disjoint_pair c) cs) ≡ implies (is_in c) (not (in_any cs))
    all_apart c [] = sym (or-true (not (is_in c)))
    all_apart c (d ∷ ds) =
        let head = inclusion_obeyed c (complement d) in
        let tail = all_apart c ds in
        (λ j. head j && tail j) ∙ by (is_in c) (is_in d) (in_any ds)
      where
        by : (a b v : Bool) → (implies a (not b) && implies a (not v)) ≡ implies a (not (b || v))
        by true true v = refl
        by true false v = refl
        by false b v = refl

    one_counted : (c : Concept) (cs : List Concept) → count_by is_in (c ∷ cs) ≡ cond (is_in c) 1 0 + count_by is_in cs
    one_counted c cs = sum_by-cons (λ d. cond (is_in d) 1 0) c cs

    some_counted : (cs : List Concept) → leb 1 (count_by is_in cs) ≡ in_any cs
    some_counted [] = refl
    some_counted (c ∷ cs) =
        let head = some_cond (is_in c) in
        let tail = some_counted cs in
        ap (leb 1) (one_counted c cs) ∙ some_is_some (cond (is_in c) 1 0) (count_by is_in cs) ∙ (λ j. head j || tail j)

    disjoint_obeyed : (cs : List Concept) → obeyed (disjoint_parts cs) ≡ none_twice i cs x
    disjoint_obeyed [] = refl
    disjoint_obeyed (c ∷ cs) =
        let first : obeyed (map (disjoint_pair c) cs) ≡ implies (is_in c) (not (leb 1 (count_by is_in cs))) =
        all_apart c cs ∙ ap (λ b. implies (is_in c) (not b)) (sym (some_counted cs)) in
        let rest = disjoint_obeyed cs in
        list_all-append (λ p. obeys p x) (map (disjoint_pair c) cs) (disjoint_parts cs) ∙ (λ j. first j && rest j)
        ∙ sym (ap (λ n. leb n 1) (one_counted c cs) ∙ one_more (is_in c) (count_by is_in cs))

    each_inside : (a : Concept) (cs : List Concept)
        → obeyed (map (λ c. inclusion_of c a) cs) ≡ implies (in_any cs) (is_in a)
    each_inside a [] = refl
    each_inside a (c ∷ cs) =
        let head = inclusion_obeyed c a in
        let tail = each_inside a cs in
        (λ j. head j && tail j) ∙ by (is_in c) (in_any cs) (is_in a)
      where
        by : (b v w : Bool) → (implies b w && implies v w) ≡ implies (b || v) w
        by true v true = or-true (not v)
        by true v false = refl
        by false v w = refl

    union_obeyed : (a : Concept) (cs : List Concept)
        → obeyed (union_parts a cs) ≡ (same (is_in a) (in_any cs) && none_twice i cs x)
    union_obeyed a cs =
        let first = inclusion_obeyed a (union (parts_of cs)) in
        let second = each_inside a cs in
        let third = disjoint_obeyed cs in
        ap (λ b. obeys (inclusion_of a (union (parts_of cs))) x && b)
        (list_all-append (λ p. obeys p x) (map (λ c. inclusion_of c a) cs) (disjoint_parts cs))
        ∙ (λ j. first j && (second j && third j))
        ∙ sym (and_assoc (implies (is_in a) (in_any cs)) (implies (in_any cs) (is_in a)) (none_twice i cs x))

    domain_obeyed : (r : ℕ) (c : Concept)
        → obeyed (inclusion_of (some_of r top) c ∷ []) ≡ implies (leb 1 (out_degree i r x)) (is_in c)
    domain_obeyed r c =
        alone_obeyed (some_of r top) c
        ∙ ap (λ (q : ℕ → Bool). implies (leb 1 (count_below i.size q)) (is_in c)) (λ j y. and-true (i.in_role r x y) j)

    functional_obeyed : (r : ℕ) → obeyed (inclusion_of top (at_most 1 r top) ∷ []) ≡ leb (out_degree i r x) 1
    functional_obeyed r =
        alone_obeyed top (at_most 1 r top)
        ∙ ap (λ (q : ℕ → Bool). leb (count_below i.size q) 1) (λ j y. and-true (i.in_role r x y) j)

    range_obeyed : (r : ℕ) (c : Concept) → obeyed (range_of r c ∷ []) ≡ each_successor i r (holds i c) x
    range_obeyed r c =
        and-true (obeys (range_of r c) x) ∙ ap (λ (q : ℕ → Bool). each_successor i r q x) (λ j y. normal_truth i c y j)

  -- ---- at all of them

  everywhere : (ps : List Part) (p : ℕ → Bool) → ((x : ℕ) → obeyed x ps ≡ p x) → all_below i.size p ≡ meets_parts i ps
  everywhere ps p each = sym (all_met ps ∙ ap (all_below i.size) (λ j x. each x j))

  pub axiom_is_parts : (a : Axiom) → is_role_axiom a ≡ false → is_assertion a ≡ false
      → meets i a ≡ meets_parts i (axiom_parts a)
  axiom_is_parts (SubClassOf c d) h e =
      everywhere (inclusion_of c d ∷ []) (λ x. implies (holds i c x) (holds i d x)) (λ x. alone_obeyed x c d)
  axiom_is_parts (EquivalentClasses cs) h e =
      everywhere (equivalent_parts cs) (λ x. all_same i cs x) (λ x. equivalent_obeyed x cs)
  axiom_is_parts (DisjointClasses cs) h e =
      everywhere (disjoint_parts cs) (λ x. none_twice i cs x) (λ x. disjoint_obeyed x cs)
  axiom_is_parts (DisjointUnion a cs) h e =
      everywhere (union_parts a cs) (λ x. same (holds i a x) (hold_any i (parts_of cs) x) && none_twice i cs x)
      (λ x. union_obeyed x a cs)
  axiom_is_parts (Domain r c) h e =
      everywhere (inclusion_of (some_of r top) c ∷ []) (λ x. implies (leb 1 (out_degree i r x)) (holds i c x))
      (λ x. domain_obeyed x r c)
  axiom_is_parts (Range r c) h e =
      everywhere (range_of r c ∷ []) (λ x. each_successor i r (holds i c) x) (λ x. range_obeyed x r c)
  axiom_is_parts (Functional r) h e =
      everywhere (inclusion_of top (at_most 1 r top) ∷ []) (λ x. leb (out_degree i r x) 1) (λ x. functional_obeyed x r)
  axiom_is_parts (SubRole r s) h e = cc
  axiom_is_parts (EquivalentRoles rs) h e = cc
  axiom_is_parts (Transitive r) h e = cc
  axiom_is_parts (Member c a) h e = cc
  axiom_is_parts (Pair r a b) h e = cc
  axiom_is_parts (SameAll as_) h e = cc
  axiom_is_parts (Different as_) h e = cc
