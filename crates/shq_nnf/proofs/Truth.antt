-- The truth of normal forms.
use Rattle.std.proofs.Common.{◌≡◌, ℕ, zero, suc, ◌+◌, Bool, true, false, not, ◌&&◌, ◌||◌, cond, eqb, leb, List, [], ◌∷◌}
use Rattle.std.proofs.Common.{◌++◌, filter, refl, ap, sym, ◌∙◌, arith}
use Rattle.std.specs.Prelude.{if◌then◌else◌}
use Rattle.std.specs.List.{list_any, flat_map}
use Rattle.std.proofs.lemmas.Bool.{leb-true, leb-false, le-leb, lt-leb, eq-eqb, ne_eqb}
use Rattle.std.proofs.Math.Bool.{and_assoc, or_assoc, and-true, or-false, and-false, or-true, not-not}
use Rattle.shq_meaning.specs.Concept.{Concept, top, bottom, name, complement, intersection, union, some_of, all_of}
use Rattle.shq_meaning.specs.Concept.{at_least, at_most, exactly, Parts, no_parts, part, parts_of, part_list}
use Rattle.calculus_specs.specs.Normal.{is_top, is_bottom, conjuncts_of, conjuncts, intersected, and_of, disjuncts_of}
use Rattle.calculus_specs.specs.Normal.{disjuncts, united, or_of, least_form, fewer_form, most_form, more_form}
use Rattle.calculus_specs.specs.Normal.{normal_form, negated_form, normal_forms, negated_forms}
use Rattle.shq_meaning.specs.Below.{all_below, count_below}
use Rattle.shq_meaning.specs.Truth.{Interpretation, implies, successors, each_successor, holds, hold_all, hold_any}

-- ---- tests of two values

not_and : (a b : Bool) → not (a && b) ≡ (not a || not b)
not_and true b = refl
not_and false b = refl

not_or : (a b : Bool) → not (a || b) ≡ (not a && not b)
not_or true b = refl
not_or false b = refl

-- ---- numbers

pub some_is_some : (a b : ℕ) → leb 1 (a + b) ≡ (leb 1 a || leb 1 b)
some_is_some zero b = ap (leb 1) (omega arith)
some_is_some (suc a) b =
    le-leb 1 (suc a + b) (omega arith) ∙ sym (ap (λ v. v || leb 1 b) (le-leb 1 (suc a) (omega arith)))

pub some_cond : (b : Bool) → leb 1 (cond b 1 0) ≡ b
some_cond true = refl
some_cond false = refl

fewer_is_not : (n k : ℕ) → leb k n ≡ not (leb (suc n) k)
fewer_is_not n k = by (leb k n) refl
  where
    by : (b : Bool) → leb k n ≡ b → leb k n ≡ not (leb (suc n) k)
    by true e = e ∙ sym (ap not (lt-leb (suc n) k (let l = leb-true k n e in omega arith)))
    by false e = e ∙ sym (ap not (le-leb (suc n) k (let l = leb-false k n e in omega arith)))

equal_is_both : (n k : ℕ) → eqb k n ≡ (leb n k && leb k n)
equal_is_both n k = by (leb n k) (leb k n) refl refl
  where
    by : (a b : Bool) → leb n k ≡ a → leb k n ≡ b → eqb k n ≡ (leb n k && leb k n)
    by true true e f =
        eq-eqb k n (let l = leb-true n k e in let m = leb-true k n f in omega arith) ∙ sym (λ i. e i && f i)
    by true false e f = ne_eqb k n (λ same. let m = leb-false k n f in omega arith) ∙ sym (λ i. e i && f i)
    by false b e f = ne_eqb k n (λ same. let m = leb-false n k e in omega arith) ∙ sym (λ i. e i && f i)

none_left : (k : ℕ) → leb k 0 ≡ not (leb 1 k)
none_left k = fewer_is_not 0 k

-- ---- successors: each is in a class where none is in its complement

each_or_one : (n : ℕ) (in_role p : ℕ → Bool)
    → all_below n (λ y. implies (in_role y) (not (p y))) ≡ not (leb 1 (count_below n (λ y. in_role y && p y)))
each_or_one zero in_role p = refl
each_or_one (suc n) in_role p =
    let rest = each_or_one n in_role p in
    let here : implies (in_role n) (not (p n)) ≡ not (in_role n && p n) = sym (not_and (in_role n) (p n)) in
    (λ i. rest i && here i)
    ∙ sym (not_or (leb 1 (count_below n (λ y. in_role y && p y))) (in_role n && p n))
    ∙ ap not (sym
    (some_is_some (count_below n (λ y. in_role y && p y)) (cond (in_role n && p n) 1 0)
    ∙ ap (λ b. leb 1 (count_below n (λ y. in_role y && p y)) || b) (some_cond (in_role n && p n))))

each_not : (i : Interpretation) (r : ℕ) (p : ℕ → Bool) (x : ℕ)
    → each_successor i r (λ y. not (p y)) x ≡ not (leb 1 (successors i r p x))
each_not i r p x = each_or_one i.size (i.in_role r x) p

some_not : (i : Interpretation) (r : ℕ) (p : ℕ → Bool) (x : ℕ)
    → leb 1 (successors i r (λ y. not (p y)) x) ≡ not (each_successor i r p x)
some_not i r p x =
    sym (not-not (leb 1 (successors i r (λ y. not (p y)) x)))
    ∙ ap not (sym (each_not i r (λ y. not (p y)) x) ∙ (λ j. each_successor i r (λ y. not-not (p y) j) x))

-- ---- lists of concepts

module _ (i : Interpretation) (x : ℕ) where
  abbrev each_of : List Concept → Bool
  each_of cs = hold_all i (parts_of cs) x

  each_append : (cs ds : List Concept) → each_of (cs ++ ds) ≡ (each_of cs && each_of ds)
  each_append [] ds = refl
  each_append (c ∷ cs) ds =
      ap (λ b. holds i c x && b) (each_append cs ds) ∙ sym (and_assoc (holds i c x) (each_of cs) (each_of ds))

  conjuncts_hold : (c : Concept) → each_of (conjuncts_of c) ≡ holds i c x
  conjuncts_hold (intersection cs) = by cs
    where
      by : (ds : Parts) → each_of (part_list ds) ≡ hold_all i ds x
      by no_parts = refl
      by (part d ds) = ap (λ b. holds i d x && b) (by ds)
  conjuncts_hold top = and-true (holds i top x)
  conjuncts_hold bottom = and-true (holds i bottom x)
  conjuncts_hold (name a) = and-true (holds i (name a) x)
  conjuncts_hold (complement c) = and-true (holds i (complement c) x)
  conjuncts_hold (union cs) = and-true (holds i (union cs) x)
  conjuncts_hold (some_of r c) = and-true (holds i (some_of r c) x)
  conjuncts_hold (all_of r c) = and-true (holds i (all_of r c) x)
  conjuncts_hold (at_least n r c) = and-true (holds i (at_least n r c) x)
  conjuncts_hold (at_most n r c) = and-true (holds i (at_most n r c) x)
  conjuncts_hold (exactly n r c) = and-true (holds i (exactly n r c) x)

  opened_conjuncts_hold : (cs : List Concept) → each_of (flat_map conjuncts_of cs) ≡ each_of cs
  opened_conjuncts_hold [] = refl
  opened_conjuncts_hold (c ∷ cs) =
      let head = conjuncts_hold c in
      let tail = opened_conjuncts_hold cs in
      each_append (conjuncts_of c) (flat_map conjuncts_of cs) ∙ (λ j. head j && tail j)

  top_is : (c : Concept) → is_top c ≡ true → holds i c x ≡ true
  top_is top h = refl
  top_is _ h = cc

  bottom_is : (c : Concept) → is_bottom c ≡ true → holds i c x ≡ false
  bottom_is bottom h = refl
  bottom_is _ h = cc

  kept_conjuncts_hold : (cs : List Concept) → each_of (filter (λ c. not (is_top c)) cs) ≡ each_of cs
  kept_conjuncts_hold [] = refl
  kept_conjuncts_hold (c ∷ cs) = by (is_top c) refl (kept_conjuncts_hold cs)
    where
      by : (b : Bool) → is_top c ≡ b → each_of (filter (λ d. not (is_top d)) cs) ≡ each_of cs
          → each_of (cond (not (is_top c)) (c ∷ filter (λ d. not (is_top d)) cs) (filter (λ d. not (is_top d)) cs))
          ≡ (holds i c x && each_of cs)
      by true e rest =
          ap (λ b. each_of (cond (not b) (c ∷ filter (λ d. not (is_top d)) cs) (filter (λ d. not (is_top d)) cs))) e
          ∙ rest ∙ sym (ap (λ b. b && each_of cs) (top_is c e))
      by false e rest =
          ap (λ b. each_of (cond (not b) (c ∷ filter (λ d. not (is_top d)) cs) (filter (λ d. not (is_top d)) cs))) e
          ∙ ap (λ b. holds i c x && b) rest

  each_with_bottom : (cs : List Concept) → list_any is_bottom cs ≡ true → each_of cs ≡ false
  each_with_bottom [] h = sym h
  each_with_bottom (c ∷ cs) h = by (is_bottom c) refl h (each_with_bottom cs)
    where
      by : (b : Bool) → is_bottom c ≡ b → (b || list_any is_bottom cs) ≡ true
          → (list_any is_bottom cs ≡ true → each_of cs ≡ false) → (holds i c x && each_of cs) ≡ false
      by true e g rest = ap (λ b. b && each_of cs) (bottom_is c e)
      by false e g rest = ap (λ b. holds i c x && b) (rest g) ∙ and-false (holds i c x)

  intersected_holds : (cs : List Concept) → holds i (intersected cs) x ≡ each_of cs
  intersected_holds [] = refl
  intersected_holds (c ∷ []) = sym (and-true (holds i c x))
  intersected_holds (c ∷ d ∷ cs) = refl

  pub and_holds : (cs : List Concept) → holds i (and_of cs) x ≡ each_of cs
  and_holds cs =
      by (list_any is_bottom (conjuncts cs)) refl ∙ kept_conjuncts_hold (flat_map conjuncts_of cs)
      ∙ opened_conjuncts_hold cs
    where
      by : (b : Bool) → list_any is_bottom (conjuncts cs) ≡ b
          → holds i (if list_any is_bottom (conjuncts cs) then bottom else intersected (conjuncts cs)) x
          ≡ each_of (conjuncts cs)
      by true e =
          ap (λ b. holds i (if b then bottom else intersected (conjuncts cs)) x) e
          ∙ sym (each_with_bottom (conjuncts cs) e)
      by false e =
          ap (λ b. holds i (if b then bottom else intersected (conjuncts cs)) x) e ∙ intersected_holds (conjuncts cs)

  abbrev any_of : List Concept → Bool
  any_of cs = hold_any i (parts_of cs) x

  any_append : (cs ds : List Concept) → any_of (cs ++ ds) ≡ (any_of cs || any_of ds)
  any_append [] ds = refl
  any_append (c ∷ cs) ds =
      ap (λ b. holds i c x || b) (any_append cs ds) ∙ sym (or_assoc (holds i c x) (any_of cs) (any_of ds))

  disjuncts_hold : (c : Concept) → any_of (disjuncts_of c) ≡ holds i c x
  disjuncts_hold (union cs) = by cs
    where
      by : (ds : Parts) → any_of (part_list ds) ≡ hold_any i ds x
      by no_parts = refl
      by (part d ds) = ap (λ b. holds i d x || b) (by ds)
  disjuncts_hold top = or-false (holds i top x)
  disjuncts_hold bottom = or-false (holds i bottom x)
  disjuncts_hold (name a) = or-false (holds i (name a) x)
  disjuncts_hold (complement c) = or-false (holds i (complement c) x)
  disjuncts_hold (intersection cs) = or-false (holds i (intersection cs) x)
  disjuncts_hold (some_of r c) = or-false (holds i (some_of r c) x)
  disjuncts_hold (all_of r c) = or-false (holds i (all_of r c) x)
  disjuncts_hold (at_least n r c) = or-false (holds i (at_least n r c) x)
  disjuncts_hold (at_most n r c) = or-false (holds i (at_most n r c) x)
  disjuncts_hold (exactly n r c) = or-false (holds i (exactly n r c) x)

  opened_disjuncts_hold : (cs : List Concept) → any_of (flat_map disjuncts_of cs) ≡ any_of cs
  opened_disjuncts_hold [] = refl
  opened_disjuncts_hold (c ∷ cs) =
      let head = disjuncts_hold c in
      let tail = opened_disjuncts_hold cs in
      any_append (disjuncts_of c) (flat_map disjuncts_of cs) ∙ (λ j. head j || tail j)

  kept_disjuncts_hold : (cs : List Concept) → any_of (filter (λ c. not (is_bottom c)) cs) ≡ any_of cs
  kept_disjuncts_hold [] = refl
  kept_disjuncts_hold (c ∷ cs) = by (is_bottom c) refl (kept_disjuncts_hold cs)
    where
      by : (b : Bool) → is_bottom c ≡ b → any_of (filter (λ d. not (is_bottom d)) cs) ≡ any_of cs
          → any_of
          (cond (not (is_bottom c)) (c ∷ filter (λ d. not (is_bottom d)) cs) (filter (λ d. not (is_bottom d)) cs))
          ≡ (holds i c x || any_of cs)
      by true e rest =
          ap (λ b. any_of (cond (not b) (c ∷ filter (λ d. not (is_bottom d)) cs) (filter (λ d. not (is_bottom d)) cs)))
          e
          ∙ rest ∙ sym (ap (λ b. b || any_of cs) (bottom_is c e))
      by false e rest =
          ap (λ b. any_of (cond (not b) (c ∷ filter (λ d. not (is_bottom d)) cs) (filter (λ d. not (is_bottom d)) cs)))
          e
          ∙ ap (λ b. holds i c x || b) rest

  any_with_top : (cs : List Concept) → list_any is_top cs ≡ true → any_of cs ≡ true
  any_with_top [] h = h
  any_with_top (c ∷ cs) h = by (is_top c) refl h (any_with_top cs)
    where
      by : (b : Bool) → is_top c ≡ b → (b || list_any is_top cs) ≡ true → (list_any is_top cs ≡ true → any_of cs ≡ true)
          → (holds i c x || any_of cs) ≡ true
      by true e g rest = ap (λ b. b || any_of cs) (top_is c e)
      by false e g rest = ap (λ b. holds i c x || b) (rest g) ∙ or-true (holds i c x)

  united_holds : (cs : List Concept) → holds i (united cs) x ≡ any_of cs
  united_holds [] = refl
  united_holds (c ∷ []) = sym (or-false (holds i c x))
  united_holds (c ∷ d ∷ cs) = refl

  pub or_holds : (cs : List Concept) → holds i (or_of cs) x ≡ any_of cs
  or_holds cs =
      by (list_any is_top (disjuncts cs)) refl ∙ kept_disjuncts_hold (flat_map disjuncts_of cs)
      ∙ opened_disjuncts_hold cs
    where
      by : (b : Bool) → list_any is_top (disjuncts cs) ≡ b
          → holds i (if list_any is_top (disjuncts cs) then top else united (disjuncts cs)) x ≡ any_of (disjuncts cs)
      by true e = ap (λ b. holds i (if b then top else united (disjuncts cs)) x) e ∙ sym (any_with_top (disjuncts cs) e)
      by false e = ap (λ b. holds i (if b then top else united (disjuncts cs)) x) e ∙ united_holds (disjuncts cs)

-- ---- cardinalities

abbrev opposite_of : (ℕ → Bool) → ℕ → Bool
opposite_of p y = not (p y)

module _ (i : Interpretation) (r : ℕ) (c not_c : Concept) (p : ℕ → Bool) (is : holds i c ≡ p)
    (opposite : holds i not_c ≡ opposite_of p) (x : ℕ) where
  abbrev many : ℕ
  many = successors i r p x

  same_many : successors i r (holds i c) x ≡ many
  same_many = ap (λ (q : ℕ → Bool). successors i r q x) is

  least_holds : (n : ℕ) → holds i (least_form n r c) x ≡ leb n many
  least_holds zero = sym (le-leb 0 many (omega arith))
  least_holds (suc zero) = ap (leb 1) same_many
  least_holds (suc (suc n)) = ap (leb (suc (suc n))) same_many

  none_holds : holds i (all_of r not_c) x ≡ not (leb 1 many)
  none_holds = ap (λ (q : ℕ → Bool). each_successor i r q x) opposite ∙ each_not i r p x

  fewer_holds : (n : ℕ) → holds i (fewer_form n r c not_c) x ≡ not (leb n many)
  fewer_holds zero = sym (ap not (le-leb 0 many (omega arith)))
  fewer_holds (suc zero) = none_holds
  fewer_holds (suc (suc n)) = ap (λ k. leb k (suc n)) same_many ∙ fewer_is_not (suc n) many

  most_holds : (n : ℕ) → holds i (most_form n r c not_c) x ≡ leb many n
  most_holds zero = none_holds ∙ sym (none_left many)
  most_holds (suc n) = ap (λ k. leb k (suc n)) same_many

  more_holds : (n : ℕ) → holds i (more_form n r c) x ≡ not (leb many n)
  more_holds zero = ap (leb 1) same_many ∙ sym (not-not (leb 1 many)) ∙ sym (ap not (fewer_is_not 0 many))
  more_holds (suc n) =
      ap (leb (suc (suc n))) same_many ∙ sym (not-not (leb (suc (suc n)) many))
      ∙ sym (ap not (fewer_is_not (suc n) many))

  exactly_holds : (n : ℕ) → holds i (and_of (least_form n r c ∷ most_form n r c not_c ∷ [])) x ≡ eqb many n
  exactly_holds n =
      let a = least_holds n in
      let b = most_holds n in
      and_holds i x (least_form n r c ∷ most_form n r c not_c ∷ [])
      ∙ ap (λ v. holds i (least_form n r c) x && v) (and-true (holds i (most_form n r c not_c) x)) ∙ (λ j. a j && b j)
      ∙ sym (equal_is_both n many)

  not_exactly_holds : (n : ℕ) → holds i (or_of (fewer_form n r c not_c ∷ more_form n r c ∷ [])) x ≡ not (eqb many n)
  not_exactly_holds n =
      let a = fewer_holds n in
      let b = more_holds n in
      or_holds i x (fewer_form n r c not_c ∷ more_form n r c ∷ [])
      ∙ ap (λ v. holds i (fewer_form n r c not_c) x || v) (or-false (holds i (more_form n r c) x)) ∙ (λ j. a j || b j)
      ∙ sym (not_and (leb n many) (leb many n)) ∙ sym (ap not (equal_is_both n many))

-- ---- any class expression

module _ (i : Interpretation) where
  mutual
    pub normal_truth : (c : Concept) (x : ℕ) → holds i (normal_form c) x ≡ holds i c x
    normal_truth top x = refl
    normal_truth bottom x = refl
    normal_truth (name a) x = refl
    normal_truth (complement c) x = negated_truth c x
    normal_truth (intersection cs) x = and_holds i x (normal_forms cs) ∙ normal_all cs x
    normal_truth (union cs) x = or_holds i x (normal_forms cs) ∙ normal_any cs x
    normal_truth (some_of r c) x = ap (λ (q : ℕ → Bool). leb 1 (successors i r q x)) (λ j y. normal_truth c y j)
    normal_truth (all_of r c) x = ap (λ (q : ℕ → Bool). each_successor i r q x) (λ j y. normal_truth c y j)
    normal_truth (at_least n r c) x =
        least_holds i r (normal_form c) (negated_form c) (holds i c) (λ j y. normal_truth c y j)
        (λ j y. negated_truth c y j) x n
    normal_truth (at_most n r c) x =
        most_holds i r (normal_form c) (negated_form c) (holds i c) (λ j y. normal_truth c y j)
        (λ j y. negated_truth c y j) x n
    normal_truth (exactly n r c) x =
        exactly_holds i r (normal_form c) (negated_form c) (holds i c) (λ j y. normal_truth c y j)
        (λ j y. negated_truth c y j) x n

    pub negated_truth : (c : Concept) (x : ℕ) → holds i (negated_form c) x ≡ not (holds i c x)
    negated_truth top x = refl
    negated_truth bottom x = refl
    negated_truth (name a) x = refl
    negated_truth (complement c) x = normal_truth c x ∙ sym (not-not (holds i c x))
    negated_truth (intersection cs) x = or_holds i x (negated_forms cs) ∙ negated_any cs x
    negated_truth (union cs) x = and_holds i x (negated_forms cs) ∙ negated_all cs x
    negated_truth (some_of r c) x =
        ap (λ (q : ℕ → Bool). each_successor i r q x) (λ j y. negated_truth c y j) ∙ each_not i r (holds i c) x
    negated_truth (all_of r c) x =
        ap (λ (q : ℕ → Bool). leb 1 (successors i r q x)) (λ j y. negated_truth c y j) ∙ some_not i r (holds i c) x
    negated_truth (at_least n r c) x =
        fewer_holds i r (normal_form c) (negated_form c) (holds i c) (λ j y. normal_truth c y j)
        (λ j y. negated_truth c y j) x n
    negated_truth (at_most n r c) x =
        more_holds i r (normal_form c) (negated_form c) (holds i c) (λ j y. normal_truth c y j)
        (λ j y. negated_truth c y j) x n
    negated_truth (exactly n r c) x =
        not_exactly_holds i r (normal_form c) (negated_form c) (holds i c) (λ j y. normal_truth c y j)
        (λ j y. negated_truth c y j) x n

    normal_all : (cs : Parts) (x : ℕ) → hold_all i (parts_of (normal_forms cs)) x ≡ hold_all i cs x
    normal_all no_parts x = refl
    normal_all (part c cs) x = λ j. normal_truth c x j && normal_all cs x j

    normal_any : (cs : Parts) (x : ℕ) → hold_any i (parts_of (normal_forms cs)) x ≡ hold_any i cs x
    normal_any no_parts x = refl
    normal_any (part c cs) x = λ j. normal_truth c x j || normal_any cs x j

    negated_any : (cs : Parts) (x : ℕ) → hold_any i (parts_of (negated_forms cs)) x ≡ not (hold_all i cs x)
    negated_any no_parts x = refl
    negated_any (part c cs) x =
        (λ j. negated_truth c x j || negated_any cs x j) ∙ sym (not_and (holds i c x) (hold_all i cs x))

    negated_all : (cs : Parts) (x : ℕ) → hold_all i (parts_of (negated_forms cs)) x ≡ not (hold_any i cs x)
    negated_all no_parts x = refl
    negated_all (part c cs) x =
        (λ j. negated_truth c x j && negated_all cs x j) ∙ sym (not_or (holds i c x) (hold_any i cs x))
