-- Conjuncts by their positions, as numbers of a table and as concepts.
use Rattle.std.proofs.Common.{◌≡◌, ℕ, zero, suc, ◌+◌, ◌<◌, ◌≤◌, ◌||◌, Bool, true, false, cond, ltb, leb, eqb, List, []}
use Rattle.std.proofs.Common.{◌∷◌, ◌++◌, map, length, get_or, drop, refl, ap, sym, ◌∙◌, arith, inl, inr}
use Rattle.std.specs.List.{list_all}
use Rattle.std.proofs.lemmas.Bool.{ltb-true, leb-true, le-leb, ne_eqb, eq-eqb, cases_Bool, cases_eq, and_parts}
use Rattle.std.proofs.lemmas.Bool.{and_from, false≢true}
use Rattle.std.proofs.lemmas.List.{append_assoc, drop_more}
use Rattle.refutation_truth.specs.Concept.{Concept, top}
use Rattle.refutation_truth.specs.Normal.{negated_form}
use Rattle.refutation_truth.specs.Shape.{Shape, shape_of, IsTable}
use Rattle.refutation_truth.specs.Shape.Shape.{top as top_shape, bottom as bottom_shape, name as name_shape, not_name}
use Rattle.refutation_truth.specs.Shape.Shape.{intersection as intersection_shape, union as union_shape}
use Rattle.refutation_truth.specs.Shape.Shape.{some_of as some_shape, all_of as all_shape, at_least as least_shape}
use Rattle.refutation_truth.specs.Shape.Shape.{at_most as most_shape}
use Rattle.refutation_truth.specs.Tree.{tree_over, trees_of, tree_of}
use Rattle.refutation_truth.specs.TheoryRows.{is_among, is_ascending, is_name, conjunct_at, others_from}
use Rattle.refutation_truth.proofs.Numbers.{shape_tree, top_number}
use Rattle.row_cache.specs.Rows.{is_name_shape, conjunct_number_at, other_numbers}

-- ---- the conjunct at a position

module _ (t : List Shape) (good : IsTable t) where
  at_place : (cs : List ℕ) (i : ℕ) → tree_of t (get_or cs i 0) ≡ get_or (map (tree_of t) cs) i top
  at_place [] i = (top_number t good).stands_for
  at_place (c ∷ cs) zero = refl
  at_place (c ∷ cs) (suc i) = at_place cs i

  pub tree_at : (cs : List ℕ) (p : ℕ) → tree_of t (conjunct_number_at cs p) ≡ conjunct_at (map (tree_of t) cs) p
  tree_at cs zero = (top_number t good).stands_for
  tree_at cs (suc i) = at_place cs i

  place_listed : (cs : List ℕ) (i : ℕ) → list_all (λ c. ltb c (length t)) cs ≡ true → get_or cs i 0 < length t
  place_listed [] i h = good.has_top
  place_listed (c ∷ cs) zero h =
      ltb-true c (length t) (and_parts (ltb c (length t)) (list_all (λ d. ltb d (length t)) cs) h).0
  place_listed (c ∷ cs) (suc i) h =
      place_listed cs i (and_parts (ltb c (length t)) (list_all (λ d. ltb d (length t)) cs) h).1

  pub number_listed : (cs : List ℕ) (p : ℕ) → list_all (λ c. ltb c (length t)) cs ≡ true
      → conjunct_number_at cs p < length t
  number_listed cs zero h = good.has_top
  number_listed cs (suc i) h = place_listed cs i h

-- ---- positions that ascend

pub short_ascends : (ps : List ℕ) → length ps ≤ 1 → is_ascending ps ≡ true
short_ascends [] le = refl
short_ascends (x ∷ []) le = refl
short_ascends (x ∷ y ∷ ys) le = absurd (omega arith)

none_later : (x k : ℕ) (xs : List ℕ) → k ≤ x → is_ascending (x ∷ xs) ≡ true → is_among xs k ≡ false
none_later x k [] le h = refl
none_later x k (y ∷ ys) le h =
    let p = and_parts (ltb x y) (is_ascending (y ∷ ys)) h in
    let less : x < y = ltb-true x y p.0 in
    let head : eqb y k ≡ false = ne_eqb y k (λ e. absurd (omega arith)) in
    let tail : is_among ys k ≡ false = none_later y k ys (omega arith) p.1 in
    λ i. head i || tail i

-- the least position alone may be the next place
pub first_alone : (k : ℕ) (ps : List ℕ) → is_ascending ps ≡ true → list_all (λ i. leb k i) ps ≡ true
    → eqb (length ps) 0 ≡ false → eqb (get_or ps 0 0) k ≡ is_among ps k
first_alone k [] h low some = absurd (false≢true (sym some))
first_alone k (x ∷ xs) h low some =
    let le : k ≤ x = leb-true k x (and_parts (leb k x) (list_all (λ i. leb k i) xs) low).0 in
    sym (ap (λ (b : Bool). eqb x k || b) (none_later x k xs le h) ∙ without (eqb x k))
  where
    without : (b : Bool) → (b || false) ≡ b
    without true = refl
    without false = refl

pub rest_ascends : (ps : List ℕ) → is_ascending ps ≡ true → is_ascending (drop 1 ps) ≡ true
rest_ascends [] h = refl
rest_ascends (x ∷ []) h = refl
rest_ascends (x ∷ y ∷ ys) h = (and_parts (ltb x y) (is_ascending (y ∷ ys)) h).1

all_above : (k x : ℕ) (xs : List ℕ) → k ≤ x → is_ascending (x ∷ xs) ≡ true → list_all (λ i. leb (k + 1) i) xs ≡ true
all_above k x [] le h = refl
all_above k x (y ∷ ys) le h =
    let p = and_parts (ltb x y) (is_ascending (y ∷ ys)) h in
    let less : x < y = ltb-true x y p.0 in
    and_from (leb (k + 1) y) (list_all (λ i. leb (k + 1) i) ys) (le-leb (k + 1) y (omega arith))
    (all_above k y ys (omega arith) p.1)

-- what is left when the place is passed
pub rest_above : (k : ℕ) (ps : List ℕ) → is_ascending ps ≡ true → list_all (λ i. leb k i) ps ≡ true
    → list_all (λ i. leb (k + 1) i) (drop 1 ps) ≡ true
rest_above k [] h low = refl
rest_above k (x ∷ xs) h low = all_above k x xs (leb-true k x (and_parts (leb k x) (list_all (λ i. leb k i) xs) low).0) h

-- what is left when the place is none of them
pub all_pass : (k : ℕ) (ps : List ℕ) → is_among ps k ≡ false → list_all (λ i. leb k i) ps ≡ true
    → list_all (λ i. leb (k + 1) i) ps ≡ true
all_pass k [] none low = refl
all_pass k (x ∷ xs) none low =
    let p = and_parts (leb k x) (list_all (λ i. leb k i) xs) low in
    let le : k ≤ x = leb-true k x p.0 in
    elim (cases_eq x k) [
      | inl e ↦ let here : is_among (x ∷ xs) k ≡ true = rw (eq-eqb x k e) refl in absurd (false≢true (sym none ∙ here))
      | inr ne ↦
          let rest : is_among xs k ≡ false = sym (ap (λ (b : Bool). b || is_among xs k) (ne_eqb x k ne)) ∙ none in
          and_from (leb (k + 1) x) (list_all (λ i. leb (k + 1) i) xs) (le-leb (k + 1) x (next le ne))
          (all_pass k xs rest p.1)
    ]
  where
    next : k ≤ x → (x ≡ k → ⊥) → k + 1 ≤ x
    next le ne = grind arith

-- ---- the conjuncts at other positions

-- a position that was passed is asked no more
forget : (x first : ℕ) (xs cs : List ℕ) → x < first → other_numbers first (x ∷ xs) cs ≡ other_numbers first xs cs
forget x first xs [] lt = refl
forget x first xs (c ∷ cs) lt =
    let same : is_among (x ∷ xs) first ≡ is_among xs first =
    ap (λ (b : Bool). b || is_among xs first) (ne_eqb x first (λ e. absurd (omega arith))) in
    let rest : other_numbers (first + 1) (x ∷ xs) cs ≡ other_numbers (first + 1) xs cs =
    forget x (first + 1) xs cs (omega arith) in
    λ i. cond (same i) (rest i) (c ∷ rest i)

pub passed_place : (k : ℕ) (ps cs : List ℕ) → is_ascending ps ≡ true → list_all (λ i. leb k i) ps ≡ true
    → is_among ps k ≡ true → (c : ℕ) → other_numbers k ps (c ∷ cs) ≡ other_numbers (k + 1) (drop 1 ps) cs
passed_place k [] cs h low among c = absurd (false≢true among)
passed_place k (x ∷ xs) cs h low among c =
    let le : k ≤ x = leb-true k x (and_parts (leb k x) (list_all (λ i. leb k i) xs) low).0 in
    let alone : eqb x k ≡ is_among (x ∷ xs) k =
    first_alone k (x ∷ xs) h low (ne_eqb (length (x ∷ xs)) 0 (λ e. absurd (omega arith))) in
    let e : x ≡ k =
    elim (cases_eq x k) [ inl e ↦ e | inr ne ↦ absurd (false≢true (sym (ne_eqb x k ne) ∙ alone ∙ among)) ] in
    ap (λ (b : Bool). cond b (other_numbers (k + 1) (x ∷ xs) cs) (c ∷ other_numbers (k + 1) (x ∷ xs) cs)) among
    ∙ forget x (k + 1) xs cs (omega arith)

pub other_place : (k : ℕ) (ps cs : List ℕ) (c : ℕ) → is_among ps k ≡ false
    → other_numbers k ps (c ∷ cs) ≡ c ∷ other_numbers (k + 1) ps cs
other_place k ps cs c none =
    ap (λ (b : Bool). cond b (other_numbers (k + 1) ps cs) (c ∷ other_numbers (k + 1) ps cs)) none

-- the numbers that are put and the positions that are left, before the conjunct with an index
pub record IsWalked (positions conjuncts numbers rest : List ℕ) (index : ℕ) : Type 0 where
  pub same : numbers ++ other_numbers (index + 1) rest (drop index conjuncts) ≡ other_numbers 1 positions conjuncts
  pub ascending : is_ascending rest ≡ true
  pub low : list_all (λ i. leb (index + 1) i) rest ≡ true

module _ (ps cs numbers rest : List ℕ) (i : ℕ) (lt : i < length cs) (w : IsWalked ps cs numbers rest i) where
  abbrev c : ℕ
  c = get_or cs i 0

  pub walked_place : true ≡ is_among rest (i + 1) → IsWalked ps cs numbers (drop 1 rest) (i + 1)
  walked_place among = record {
    same =
        ap (λ (l : List ℕ). numbers ++ l)
        (sym (passed_place (i + 1) rest (drop (i + 1) cs) w.ascending w.low (sym among) c)
        ∙ sym (ap (other_numbers (i + 1) rest) (drop_more cs i 0 lt)))
        ∙ w.same;
    ascending = rest_ascends rest w.ascending;
    low = rest_above (i + 1) rest w.ascending w.low;
  }

  pub walked_other : false ≡ is_among rest (i + 1) → IsWalked ps cs (numbers ++ c ∷ []) rest (i + 1)
  walked_other none = record {
    same =
        append_assoc numbers (c ∷ []) (other_numbers (i + 1 + 1) rest (drop (i + 1) cs))
        ∙ ap (λ (l : List ℕ). numbers ++ l)
        (sym (other_place (i + 1) rest (drop (i + 1) cs) c (sym none))
        ∙ sym (ap (other_numbers (i + 1) rest) (drop_more cs i 0 lt)))
        ∙ w.same;
    ascending = w.ascending;
    low = all_pass (i + 1) rest (sym none) w.low;
  }

pub others_listed : (n first : ℕ) (ps cs : List ℕ) → list_all (λ c. ltb c n) cs ≡ true
    → list_all (λ c. ltb c n) (other_numbers first ps cs) ≡ true
others_listed n first ps [] h = refl
others_listed n first ps (c ∷ cs) h =
    let p = and_parts (ltb c n) (list_all (λ d. ltb d n) cs) h in
    let rest = others_listed n (first + 1) ps cs p.1 in
    elim (cases_Bool (is_among ps first)) [
      | inl t ↦
          ap (λ (b : Bool). list_all (λ d. ltb d n)
          (cond b (other_numbers (first + 1) ps cs) (c ∷ other_numbers (first + 1) ps cs)))
          t
          ∙ rest
      | inr f ↦
          ap (λ (b : Bool). list_all (λ d. ltb d n)
          (cond b (other_numbers (first + 1) ps cs) (c ∷ other_numbers (first + 1) ps cs)))
          f
          ∙ and_from (ltb c n) (list_all (λ d. ltb d n) (other_numbers (first + 1) ps cs)) p.0 rest
    ]

pub other_trees : (f : ℕ → Concept) (first : ℕ) (ps cs : List ℕ)
    → map (λ c. negated_form (f c)) (other_numbers first ps cs) ≡ map negated_form (others_from first ps (map f cs))
other_trees f first ps [] = refl
other_trees f first ps (c ∷ cs) =
    let rest = other_trees f (first + 1) ps cs in
    elim (is_among ps first) as
    (λ (b : Bool). map (λ d. negated_form (f d))
    (cond b (other_numbers (first + 1) ps cs) (c ∷ other_numbers (first + 1) ps cs))
    ≡ map negated_form (cond b (others_from (first + 1) ps (map f cs)) (f c ∷ others_from (first + 1) ps (map f cs)))) [
      | true ↦ rest
      | false ↦ ap (λ (l : List Concept). negated_form (f c) ∷ l) rest
    ]

-- a position of a name is at least 1
pub names_low : (cs : List Concept) (ps : List ℕ) → list_all (λ i. is_name (conjunct_at cs i)) ps ≡ true
    → list_all (λ i. leb 1 i) ps ≡ true
names_low cs [] h = refl
names_low cs (zero ∷ ps) h = h
names_low cs (suc i ∷ ps) h =
    and_from (leb 1 (suc i)) (list_all (λ j. leb 1 j) ps) (le-leb 1 (suc i) (omega arith))
    (names_low cs ps (and_parts (is_name (conjunct_at cs (suc i))) (list_all (λ j. is_name (conjunct_at cs j)) ps) h).1)

-- ---- names

name_over : (trees : List Concept) (s : Shape) → is_name_shape s ≡ is_name (tree_over trees s)
name_over trees top_shape = refl
name_over trees bottom_shape = refl
name_over trees (name_shape a) = refl
name_over trees (not_name a) = refl
name_over trees (intersection_shape cs) = refl
name_over trees (union_shape cs) = refl
name_over trees (some_shape r c) = refl
name_over trees (all_shape r c) = refl
name_over trees (least_shape n r c) = refl
name_over trees (most_shape n r c) = refl

pub name_shaped : (t : List Shape) → IsTable t → (c : ℕ) → c < length t
    → is_name_shape (shape_of t c) ≡ is_name (tree_of t c)
name_shaped t good c lt = name_over (trees_of t) (shape_of t c) ∙ sym (ap is_name (shape_tree t good c lt))
