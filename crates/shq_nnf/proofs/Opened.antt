-- The members of an intersection or a union of numbers stand for those of its normal form.
use Rattle.std.proofs.Common.{◌≡◌, ℕ, ◌<◌, ◌≤◌, ◌&&◌, ◌||◌, ltb, leb, Bool, true, false, not, List, [], ◌∷◌, ◌++◌, map}
use Rattle.std.proofs.Common.{length, get_or, refl, ap, subst, sym, ◌∙◌, arith, filter, cond}
use Rattle.std.specs.Prelude.{if◌then◌else◌}
use Rattle.std.specs.List.{list_all, list_any, flat_map}
use Rattle.std.proofs.lemmas.Bool.{ltb-true, lt-ltb, and_parts, and_from, le-leb}
use Rattle.std.proofs.lemmas.List.{map-append}
use Rattle.std.proofs.lemmas.List.Folds.{list_all-append}
use Rattle.shq_meaning.specs.Concept.{Concept, top, bottom, intersection, union, parts_of, part_list}
use Rattle.calculus_specs.specs.Normal.{is_top, is_bottom, conjuncts_of, conjuncts, intersected, disjuncts_of}
use Rattle.calculus_specs.specs.Normal.{disjuncts, united}
use Rattle.calculus_specs.specs.Shape.{Shape, shape_of, has_parts_below, is_conjunct, is_disjunct, is_normal, IsTable}
use Rattle.calculus_specs.specs.Shape.Shape.{top as top_shape, bottom as bottom_shape, name as name_shape, not_name}
use Rattle.calculus_specs.specs.Shape.Shape.{intersection as intersection_shape, union as union_shape}
use Rattle.calculus_specs.specs.Shape.Shape.{some_of as some_shape, all_of as all_shape, at_least as least_shape}
use Rattle.calculus_specs.specs.Shape.Shape.{at_most as most_shape}
use Rattle.calculus_specs.specs.Tree.{tree_over, trees_of, tree_of}
use Rattle.calculus_specs.proofs.Unique.{part_list-parts_of}
use Rattle.shq_nnf.specs.Opened.{is_top_shape, is_bottom_shape, conjunct_numbers_of, conjunct_numbers}
use Rattle.shq_nnf.specs.Opened.{disjunct_numbers_of, disjunct_numbers, is_open_conjunct, is_open_disjunct}
use Rattle.shq_nnf.specs.Opened.{open_intersection, open_union}
use Rattle.shq_nnf.proofs.Numbers.{shape_tree}

filter-append : (p : Concept → Bool) (xs ys : List Concept) → filter p (xs ++ ys) ≡ filter p xs ++ filter p ys
filter-append p [] ys = refl
filter-append p (x ∷ xs) ys = by (p x) (filter-append p xs ys)
  where
    by : (b : Bool) → filter p (xs ++ ys) ≡ filter p xs ++ filter p ys
        → cond b (x ∷ filter p (xs ++ ys)) (filter p (xs ++ ys)) ≡ cond b (x ∷ filter p xs) (filter p xs) ++ filter p ys
    by true h = ap (λ (l : List Concept). x ∷ l) h
    by false h = h

top_tree : (ts : List Concept) (s : Shape) → is_top (tree_over ts s) ≡ is_top_shape s
top_tree ts top_shape = refl
top_tree ts bottom_shape = refl
top_tree ts (name_shape a) = refl
top_tree ts (not_name a) = refl
top_tree ts (intersection_shape cs) = refl
top_tree ts (union_shape cs) = refl
top_tree ts (some_shape r c) = refl
top_tree ts (all_shape r c) = refl
top_tree ts (least_shape n r c) = refl
top_tree ts (most_shape n r c) = refl

bottom_tree : (ts : List Concept) (s : Shape) → is_bottom (tree_over ts s) ≡ is_bottom_shape s
bottom_tree ts top_shape = refl
bottom_tree ts bottom_shape = refl
bottom_tree ts (name_shape a) = refl
bottom_tree ts (not_name a) = refl
bottom_tree ts (intersection_shape cs) = refl
bottom_tree ts (union_shape cs) = refl
bottom_tree ts (some_shape r c) = refl
bottom_tree ts (all_shape r c) = refl
bottom_tree ts (least_shape n r c) = refl
bottom_tree ts (most_shape n r c) = refl

conjunct_not_top : (s : Shape) → is_conjunct s ≡ true → is_top_shape s ≡ false
conjunct_not_top top_shape h = sym h
conjunct_not_top _ h = refl

disjunct_not_bottom : (s : Shape) → is_disjunct s ≡ true → is_bottom_shape s ≡ false
disjunct_not_bottom bottom_shape h = sym h
disjunct_not_bottom _ h = refl

conjunct_is_open : (s : Shape) → is_conjunct s ≡ true → is_open_conjunct s ≡ true
conjunct_is_open top_shape h = h
conjunct_is_open (intersection_shape cs) h = h
conjunct_is_open _ h = refl

disjunct_is_open : (s : Shape) → is_disjunct s ≡ true → is_open_disjunct s ≡ true
disjunct_is_open bottom_shape h = h
disjunct_is_open (union_shape cs) h = h
disjunct_is_open _ h = refl

open_is_conjunct : (s : Shape) → is_open_conjunct s ≡ true → is_bottom_shape s ≡ false → is_conjunct s ≡ true
open_is_conjunct top_shape h g = h
open_is_conjunct bottom_shape h g = sym g
open_is_conjunct (intersection_shape cs) h g = h
open_is_conjunct _ h g = refl

open_is_disjunct : (s : Shape) → is_open_disjunct s ≡ true → is_top_shape s ≡ false → is_disjunct s ≡ true
open_is_disjunct bottom_shape h g = h
open_is_disjunct top_shape h g = sym g
open_is_disjunct (union_shape cs) h g = h
open_is_disjunct _ h g = refl

-- a test that follows from another on each member
all_along : (p q : ℕ → Bool) → ((c : ℕ) → p c ≡ true → q c ≡ true) → (cs : List ℕ) → list_all p cs ≡ true
    → list_all q cs ≡ true
all_along p q step [] h = refl
all_along p q step (c ∷ cs) h =
    let t = and_parts (p c) (list_all p cs) h in and_from (q c) (list_all q cs) (step c t.0) (all_along p q step cs t.1)

none_of : (p q r : ℕ → Bool) → ((c : ℕ) → p c ≡ true → r c ≡ false → q c ≡ true) → (cs : List ℕ) → list_all p cs ≡ true
    → list_any r cs ≡ false → list_all q cs ≡ true
none_of p q r step [] h g = refl
none_of p q r step (c ∷ cs) h g = by (r c) refl g (none_of p q r step cs)
  where
    by : (b : Bool) → r c ≡ b → (b || list_any r cs) ≡ false
        → (list_all p cs ≡ true → list_any r cs ≡ false → list_all q cs ≡ true) → list_all q (c ∷ cs) ≡ true
    by true e f rest = cc
    by false e f rest =
        let t = and_parts (p c) (list_all p cs) h in and_from (q c) (list_all q cs) (step c t.0 e) (rest t.1 f)

module _ (t : List Shape) (good : IsTable t) where
  abbrev is_listed : ℕ → Bool
  is_listed c = ltb c (length t)

  flat_all : (numbers_of : ℕ → Shape → List ℕ) (p : ℕ → Bool)
      → ((c : ℕ) → c < length t → list_all p (numbers_of c (shape_of t c)) ≡ true)
      → (cs : List ℕ) → list_all is_listed cs ≡ true
      → list_all p (flat_map (λ c. numbers_of c (shape_of t c)) cs) ≡ true
  flat_all numbers_of p step [] h = refl
  flat_all numbers_of p step (c ∷ cs) h =
      let l = and_parts (is_listed c) (list_all is_listed cs) h in
      list_all-append p (numbers_of c (shape_of t c)) (flat_map (λ d. numbers_of d (shape_of t d)) cs)
      ∙ and_from (list_all p (numbers_of c (shape_of t c)))
      (list_all p (flat_map (λ d. numbers_of d (shape_of t d)) cs)) (step c (ltb-true c (length t) l.0))
      (flat_all numbers_of p step cs l.1)

  flat_trees : (numbers_of : ℕ → Shape → List ℕ) (keep : Concept → Bool) (inner : Concept → List Concept)
      → ((c : ℕ) → c < length t → map (tree_of t) (numbers_of c (shape_of t c)) ≡ filter keep (inner (tree_of t c)))
      → (cs : List ℕ) → list_all is_listed cs ≡ true
      → map (tree_of t) (flat_map (λ c. numbers_of c (shape_of t c)) cs)
      ≡ filter keep (flat_map inner (map (tree_of t) cs))
  flat_trees numbers_of keep inner step [] h = refl
  flat_trees numbers_of keep inner step (c ∷ cs) h =
      let l = and_parts (is_listed c) (list_all is_listed cs) h in
      let head = step c (ltb-true c (length t) l.0) in
      let tail = flat_trees numbers_of keep inner step cs l.1 in
      map-append (tree_of t) (numbers_of c (shape_of t c)) (flat_map (λ d. numbers_of d (shape_of t d)) cs)
      ∙ (λ i. head i ++ tail i)
      ∙ sym (filter-append keep (inner (tree_of t c)) (flat_map inner (map (tree_of t) cs)))

  below_listed : (n : ℕ) → n < length t → (cs : List ℕ) → list_all (λ c. ltb c n) cs ≡ true
      → list_all is_listed cs ≡ true
  below_listed n lt cs h =
      all_along (λ c. ltb c n) is_listed (λ c g. let less = ltb-true c n g in lt-ltb c (length t) (omega arith)) cs h

  -- nothing is dropped from members of a normal form
  keep_all : (test : Shape → Bool) (dropped : Concept → Bool)
      → ((c : ℕ) → c < length t → test (shape_of t c) ≡ true → dropped (tree_of t c) ≡ false)
      → (cs : List ℕ) → list_all is_listed cs ≡ true → list_all (λ c. test (shape_of t c)) cs ≡ true
      → filter (λ c. not (dropped c)) (map (tree_of t) cs) ≡ map (tree_of t) cs
  keep_all test dropped step [] l h = refl
  keep_all test dropped step (c ∷ cs) l h =
      let a = and_parts (is_listed c) (list_all is_listed cs) l in
      let b = and_parts (test (shape_of t c)) (list_all (λ d. test (shape_of t d)) cs) h in
      let stays : dropped (tree_of t c) ≡ false = step c (ltb-true c (length t) a.0) b.0 in
      let rest = keep_all test dropped step cs a.1 b.1 in
      ap (λ v. cond (not v) (tree_of t c ∷ filter (λ d. not (dropped d)) (map (tree_of t) cs))
      (filter (λ d. not (dropped d)) (map (tree_of t) cs)))
      stays
      ∙ ap (λ (l : List Concept). tree_of t c ∷ l) rest

  top_at : (c : ℕ) → c < length t → is_top (tree_of t c) ≡ is_top_shape (shape_of t c)
  top_at c lt = ap is_top (shape_tree t good c lt) ∙ top_tree (trees_of t) (shape_of t c)

  bottom_at : (c : ℕ) → c < length t → is_bottom (tree_of t c) ≡ is_bottom_shape (shape_of t c)
  bottom_at c lt = ap is_bottom (shape_tree t good c lt) ∙ bottom_tree (trees_of t) (shape_of t c)

  any_trees : (test : Concept → Bool) (p : Shape → Bool)
      → ((c : ℕ) → c < length t → test (tree_of t c) ≡ p (shape_of t c)) → (cs : List ℕ) → list_all is_listed cs ≡ true
      → list_any test (map (tree_of t) cs) ≡ list_any (λ c. p (shape_of t c)) cs
  any_trees test p step [] h = refl
  any_trees test p step (c ∷ cs) h =
      let l = and_parts (is_listed c) (list_all is_listed cs) h in
      let head = step c (ltb-true c (length t) l.0) in
      let tail = any_trees test p step cs l.1 in
      λ i. head i || tail i

  -- ---- intersections

  conjunct_trees_of : (c : ℕ) (s : Shape) → c < length t → has_parts_below c s ≡ true → is_normal t s ≡ true
      → tree_of t c ≡ tree_over (trees_of t) s
      → map (tree_of t) (conjunct_numbers_of c s) ≡ filter (λ d. not (is_top d)) (conjuncts_of (tree_of t c))
  conjunct_trees_of c top_shape lt below normal e = ap (λ k. filter (λ d. not (is_top d)) (conjuncts_of k)) (sym e)
  conjunct_trees_of c (intersection_shape cs) lt below normal e =
      let n = and_parts (leb 2 (length cs)) (list_all (λ d. is_conjunct (shape_of t d)) cs) normal in
      sym (ap (λ k. filter (λ d. not (is_top d)) (conjuncts_of k)) e
      ∙ ap (filter (λ d. not (is_top d))) (part_list-parts_of (map (tree_of t) cs))
      ∙ keep_all is_conjunct is_top (λ d less h. top_at d less ∙ conjunct_not_top (shape_of t d) h) cs
      (below_listed c lt cs below) n.1)
  conjunct_trees_of c bottom_shape lt below normal e =
      let P : Concept → Type 0 = λ k. (k ∷ []) ≡ filter (λ d. not (is_top d)) (conjuncts_of k) in subst P (sym e) refl
  conjunct_trees_of c (name_shape a) lt below normal e =
      let P : Concept → Type 0 = λ k. (k ∷ []) ≡ filter (λ d. not (is_top d)) (conjuncts_of k) in subst P (sym e) refl
  conjunct_trees_of c (not_name a) lt below normal e =
      let P : Concept → Type 0 = λ k. (k ∷ []) ≡ filter (λ d. not (is_top d)) (conjuncts_of k) in subst P (sym e) refl
  conjunct_trees_of c (union_shape cs) lt below normal e =
      let P : Concept → Type 0 = λ k. (k ∷ []) ≡ filter (λ d. not (is_top d)) (conjuncts_of k) in subst P (sym e) refl
  conjunct_trees_of c (some_shape r d) lt below normal e =
      let P : Concept → Type 0 = λ k. (k ∷ []) ≡ filter (λ d. not (is_top d)) (conjuncts_of k) in subst P (sym e) refl
  conjunct_trees_of c (all_shape r d) lt below normal e =
      let P : Concept → Type 0 = λ k. (k ∷ []) ≡ filter (λ d. not (is_top d)) (conjuncts_of k) in subst P (sym e) refl
  conjunct_trees_of c (least_shape n r d) lt below normal e =
      let P : Concept → Type 0 = λ k. (k ∷ []) ≡ filter (λ d. not (is_top d)) (conjuncts_of k) in subst P (sym e) refl
  conjunct_trees_of c (most_shape n r d) lt below normal e =
      let P : Concept → Type 0 = λ k. (k ∷ []) ≡ filter (λ d. not (is_top d)) (conjuncts_of k) in subst P (sym e) refl

  pub conjunct_trees : (cs : List ℕ) → list_all is_listed cs ≡ true
      → map (tree_of t) (conjunct_numbers t cs) ≡ conjuncts (map (tree_of t) cs)
  conjunct_trees cs h =
      flat_trees conjunct_numbers_of (λ c. not (is_top c)) conjuncts_of
      (λ c lt. conjunct_trees_of c (shape_of t c) lt (good.parts_below c lt) (good.are_normal c lt)
      (shape_tree t good c lt))
      cs h

  pub conjunct_listed_of : (c : ℕ) (s : Shape) → c < length t → has_parts_below c s ≡ true
      → list_all is_listed (conjunct_numbers_of c s) ≡ true
  conjunct_listed_of c top_shape lt below = refl
  conjunct_listed_of c (intersection_shape cs) lt below = below_listed c lt cs below
  conjunct_listed_of c _ lt below = ap (λ b. b && true) (lt-ltb c (length t) lt)

  pub conjuncts_listed : (cs : List ℕ) → list_all is_listed cs ≡ true
      → list_all is_listed (conjunct_numbers t cs) ≡ true
  conjuncts_listed cs h =
      flat_all conjunct_numbers_of is_listed (λ c lt. conjunct_listed_of c (shape_of t c) lt (good.parts_below c lt)) cs
      h

  conjunct_open_of : (c : ℕ) (s : Shape) → shape_of t c ≡ s → is_normal t s ≡ true
      → list_all (λ d. is_open_conjunct (shape_of t d)) (conjunct_numbers_of c s) ≡ true
  conjunct_open_of c top_shape e normal = refl
  conjunct_open_of c (intersection_shape cs) e normal =
      let n = and_parts (leb 2 (length cs)) (list_all (λ d. is_conjunct (shape_of t d)) cs) normal in
      all_along (λ d. is_conjunct (shape_of t d)) (λ d. is_open_conjunct (shape_of t d))
      (λ d h. conjunct_is_open (shape_of t d) h) cs n.1
  conjunct_open_of c _ e normal = ap (λ s. is_open_conjunct s && true) e

  pub conjuncts_open : (cs : List ℕ) → list_all is_listed cs ≡ true
      → list_all (λ d. is_open_conjunct (shape_of t d)) (conjunct_numbers t cs) ≡ true
  conjuncts_open cs h =
      flat_all conjunct_numbers_of (λ d. is_open_conjunct (shape_of t d))
      (λ c lt. conjunct_open_of c (shape_of t c) refl (good.are_normal c lt)) cs h

  module _ (members : List ℕ) (listed : list_all is_listed members ≡ true) where
    abbrev some_bottom : Bool
    some_bottom = list_any (λ c. is_bottom_shape (shape_of t c)) members

    open_intersection_is : open_intersection (map (tree_of t) members)
        ≡ (if some_bottom then bottom else intersected (map (tree_of t) members))
    open_intersection_is =
        ap (λ b. if b then bottom else intersected (map (tree_of t) members))
        (any_trees is_bottom is_bottom_shape bottom_at members listed)

    pub intersection_with_bottom : some_bottom ≡ true → bottom ≡ open_intersection (map (tree_of t) members)
    intersection_with_bottom b =
        sym (open_intersection_is ∙ ap (λ v. if v then bottom else intersected (map (tree_of t) members)) b)

    pub intersection_without : some_bottom ≡ false
        → intersected (map (tree_of t) members) ≡ open_intersection (map (tree_of t) members)
    intersection_without b =
        sym (open_intersection_is ∙ ap (λ v. if v then bottom else intersected (map (tree_of t) members)) b)

    pub intersection_is_normal : list_all (λ d. is_open_conjunct (shape_of t d)) members ≡ true → some_bottom ≡ false
        → 2 ≤ length members → is_normal t (intersection_shape members) ≡ true
    intersection_is_normal opened b two =
        and_from (leb 2 (length members)) (list_all (λ c. is_conjunct (shape_of t c)) members)
        (le-leb 2 (length members) two)
        (none_of (λ d. is_open_conjunct (shape_of t d)) (λ d. is_conjunct (shape_of t d))
        (λ d. is_bottom_shape (shape_of t d)) (λ d o g. open_is_conjunct (shape_of t d) o g) members opened b)

  pub intersection_of_none : (members : List ℕ) → length members < 1 → intersected (map (tree_of t) members) ≡ top
  intersection_of_none [] h = refl
  intersection_of_none (c ∷ cs) h = absurd (omega arith)

  pub intersection_of_one : (members : List ℕ) → 1 ≤ length members → length members < 2
      → (intersected (map (tree_of t) members) ≡ tree_of t (get_or members 0 0))
  intersection_of_one [] h g = absurd (omega arith)
  intersection_of_one (c ∷ []) h g = refl
  intersection_of_one (c ∷ d ∷ cs) h g = absurd (omega arith)

  pub intersection_of_many : (members : List ℕ) → 2 ≤ length members
      → intersection (parts_of (map (tree_of t) members)) ≡ intersected (map (tree_of t) members)
  intersection_of_many [] h = absurd (omega arith)
  intersection_of_many (c ∷ []) h = absurd (omega arith)
  intersection_of_many (c ∷ d ∷ cs) h = refl

  -- ---- unions

  disjunct_trees_of : (c : ℕ) (s : Shape) → c < length t → has_parts_below c s ≡ true → is_normal t s ≡ true
      → tree_of t c ≡ tree_over (trees_of t) s
      → map (tree_of t) (disjunct_numbers_of c s) ≡ filter (λ d. not (is_bottom d)) (disjuncts_of (tree_of t c))
  disjunct_trees_of c bottom_shape lt below normal e =
      ap (λ k. filter (λ d. not (is_bottom d)) (disjuncts_of k)) (sym e)
  disjunct_trees_of c (union_shape cs) lt below normal e =
      let n = and_parts (leb 2 (length cs)) (list_all (λ d. is_disjunct (shape_of t d)) cs) normal in
      sym (ap (λ k. filter (λ d. not (is_bottom d)) (disjuncts_of k)) e
      ∙ ap (filter (λ d. not (is_bottom d))) (part_list-parts_of (map (tree_of t) cs))
      ∙ keep_all is_disjunct is_bottom (λ d less h. bottom_at d less ∙ disjunct_not_bottom (shape_of t d) h) cs
      (below_listed c lt cs below) n.1)
  disjunct_trees_of c top_shape lt below normal e =
      let P : Concept → Type 0 = λ k. (k ∷ []) ≡ filter (λ d. not (is_bottom d)) (disjuncts_of k) in
      subst P (sym e) refl
  disjunct_trees_of c (name_shape a) lt below normal e =
      let P : Concept → Type 0 = λ k. (k ∷ []) ≡ filter (λ d. not (is_bottom d)) (disjuncts_of k) in
      subst P (sym e) refl
  disjunct_trees_of c (not_name a) lt below normal e =
      let P : Concept → Type 0 = λ k. (k ∷ []) ≡ filter (λ d. not (is_bottom d)) (disjuncts_of k) in
      subst P (sym e) refl
  disjunct_trees_of c (intersection_shape cs) lt below normal e =
      let P : Concept → Type 0 = λ k. (k ∷ []) ≡ filter (λ d. not (is_bottom d)) (disjuncts_of k) in
      subst P (sym e) refl
  disjunct_trees_of c (some_shape r d) lt below normal e =
      let P : Concept → Type 0 = λ k. (k ∷ []) ≡ filter (λ d. not (is_bottom d)) (disjuncts_of k) in
      subst P (sym e) refl
  disjunct_trees_of c (all_shape r d) lt below normal e =
      let P : Concept → Type 0 = λ k. (k ∷ []) ≡ filter (λ d. not (is_bottom d)) (disjuncts_of k) in
      subst P (sym e) refl
  disjunct_trees_of c (least_shape n r d) lt below normal e =
      let P : Concept → Type 0 = λ k. (k ∷ []) ≡ filter (λ d. not (is_bottom d)) (disjuncts_of k) in
      subst P (sym e) refl
  disjunct_trees_of c (most_shape n r d) lt below normal e =
      let P : Concept → Type 0 = λ k. (k ∷ []) ≡ filter (λ d. not (is_bottom d)) (disjuncts_of k) in
      subst P (sym e) refl

  pub disjunct_trees : (cs : List ℕ) → list_all is_listed cs ≡ true
      → map (tree_of t) (disjunct_numbers t cs) ≡ disjuncts (map (tree_of t) cs)
  disjunct_trees cs h =
      flat_trees disjunct_numbers_of (λ c. not (is_bottom c)) disjuncts_of
      (λ c lt. disjunct_trees_of c (shape_of t c) lt (good.parts_below c lt) (good.are_normal c lt)
      (shape_tree t good c lt))
      cs h

  disjunct_listed_of : (c : ℕ) (s : Shape) → c < length t → has_parts_below c s ≡ true
      → list_all is_listed (disjunct_numbers_of c s) ≡ true
  disjunct_listed_of c bottom_shape lt below = refl
  disjunct_listed_of c (union_shape cs) lt below = below_listed c lt cs below
  disjunct_listed_of c _ lt below = ap (λ b. b && true) (lt-ltb c (length t) lt)

  pub disjuncts_listed : (cs : List ℕ) → list_all is_listed cs ≡ true
      → list_all is_listed (disjunct_numbers t cs) ≡ true
  disjuncts_listed cs h =
      flat_all disjunct_numbers_of is_listed (λ c lt. disjunct_listed_of c (shape_of t c) lt (good.parts_below c lt)) cs
      h

  disjunct_open_of : (c : ℕ) (s : Shape) → shape_of t c ≡ s → is_normal t s ≡ true
      → list_all (λ d. is_open_disjunct (shape_of t d)) (disjunct_numbers_of c s) ≡ true
  disjunct_open_of c bottom_shape e normal = refl
  disjunct_open_of c (union_shape cs) e normal =
      let n = and_parts (leb 2 (length cs)) (list_all (λ d. is_disjunct (shape_of t d)) cs) normal in
      all_along (λ d. is_disjunct (shape_of t d)) (λ d. is_open_disjunct (shape_of t d))
      (λ d h. disjunct_is_open (shape_of t d) h) cs n.1
  disjunct_open_of c _ e normal = ap (λ s. is_open_disjunct s && true) e

  pub disjuncts_open : (cs : List ℕ) → list_all is_listed cs ≡ true
      → list_all (λ d. is_open_disjunct (shape_of t d)) (disjunct_numbers t cs) ≡ true
  disjuncts_open cs h =
      flat_all disjunct_numbers_of (λ d. is_open_disjunct (shape_of t d))
      (λ c lt. disjunct_open_of c (shape_of t c) refl (good.are_normal c lt)) cs h

  module _ (members : List ℕ) (listed : list_all is_listed members ≡ true) where
    abbrev some_top : Bool
    some_top = list_any (λ c. is_top_shape (shape_of t c)) members

    open_union_is : open_union (map (tree_of t) members) ≡ (if some_top then top else united (map (tree_of t) members))
    open_union_is =
        ap (λ b. if b then top else united (map (tree_of t) members))
        (any_trees is_top is_top_shape top_at members listed)

    pub union_with_top : some_top ≡ true → top ≡ open_union (map (tree_of t) members)
    union_with_top b = sym (open_union_is ∙ ap (λ v. if v then top else united (map (tree_of t) members)) b)

    pub union_without : some_top ≡ false → united (map (tree_of t) members) ≡ open_union (map (tree_of t) members)
    union_without b = sym (open_union_is ∙ ap (λ v. if v then top else united (map (tree_of t) members)) b)

    pub union_is_normal : list_all (λ d. is_open_disjunct (shape_of t d)) members ≡ true → some_top ≡ false
        → 2 ≤ length members → is_normal t (union_shape members) ≡ true
    union_is_normal opened b two =
        and_from (leb 2 (length members)) (list_all (λ c. is_disjunct (shape_of t c)) members)
        (le-leb 2 (length members) two)
        (none_of (λ d. is_open_disjunct (shape_of t d)) (λ d. is_disjunct (shape_of t d))
        (λ d. is_top_shape (shape_of t d)) (λ d o g. open_is_disjunct (shape_of t d) o g) members opened b)

  pub union_of_none : (members : List ℕ) → length members < 1 → united (map (tree_of t) members) ≡ bottom
  union_of_none [] h = refl
  union_of_none (c ∷ cs) h = absurd (omega arith)

  pub union_of_one : (members : List ℕ) → 1 ≤ length members → length members < 2
      → (united (map (tree_of t) members) ≡ tree_of t (get_or members 0 0))
  union_of_one [] h g = absurd (omega arith)
  union_of_one (c ∷ []) h g = refl
  union_of_one (c ∷ d ∷ cs) h g = absurd (omega arith)

  pub union_of_many : (members : List ℕ) → 2 ≤ length members
      → union (parts_of (map (tree_of t) members)) ≡ united (map (tree_of t) members)
  union_of_many [] h = absurd (omega arith)
  union_of_many (c ∷ []) h = absurd (omega arith)
  union_of_many (c ∷ d ∷ cs) h = refl

  pub listed_at : (members : List ℕ) → list_all is_listed members ≡ true → 1 ≤ length members
      → get_or members 0 0 < length t
  listed_at [] l h = absurd (omega arith)
  listed_at (c ∷ cs) l h = ltb-true c (length t) (and_parts (is_listed c) (list_all is_listed cs) l).0
