-- Rows that are made of the parts in order and then filed are a table of the rows of the axioms.
use Rattle.std.proofs.Common.{◌≡◌, ℕ, zero, suc, ◌+◌, ◌-◌, ◌<◌, ◌≤◌, ◌&&◌, Bool, true, false, cond, eqb, ltb, leb, List}
use Rattle.std.proofs.Common.{[], ◌∷◌, map, length, get_or, Option, Some, None, refl, ap, sym, subst, ◌∙◌, arith, inl}
use Rattle.std.proofs.Common.{inr}
use Rattle.std.specs.Prelude.{All, count_by}
use Rattle.std.specs.FinSet as sets
use Rattle.std.specs.List.{list_all}
use Rattle.std.proofs.lemmas.Bool.{ltb-true, cases_Bool, cases_eq, and_parts, and_from, and_right, eq-eqb, ne_eqb}
use Rattle.std.proofs.lemmas.Bool.{le-leb, or_left, or_right}
use Rattle.std.proofs.lemmas.List.{length-map}
use Rattle.std.proofs.lemmas.List.Elements.{All-from_get_or, All-nil, All-cons, All-head, All-tail, All-append, All-map}
use Rattle.std.proofs.lemmas.List.Elements.{All-weaker}
use Rattle.std.proofs.lemmas.List.Folds.{list_all-map}
use Rattle.std.proofs.lemmas.List.Sorted.{All-permutation, sum_by-IsPermutation}
use Rattle.std.proofs.lemmas.List.Sums.{sum_by-append, sum_by-cons}
use Rattle.row_cache.specs.NumberSets.{passing}
use Rattle.row_cache.specs.Sets.{Limited, IsWithin, member_list}
use Rattle.row_cache.proofs.Listed.{member_list-at}
use Rattle.shq_terms.specs.Concept.{Concept}
use Rattle.calculus_specs.specs.Shape.{Shape, shape_of, IsTable}
use Rattle.calculus_specs.specs.Tree.{tree_of}
use Rattle.calculus_specs.specs.Rows.{Part, inclusion, range, NumberedPart, Theory, part_at, is_numbered, is_among}
use Rattle.calculus_specs.specs.Rows.{is_name, conjunct_at, is_ascending, row_of, IsRowOf as IsPlainRowOf}
use Rattle.calculus_specs.specs.Rows.{Row as PlainRow, is_row_of}
use Rattle.calculus_specs.specs.Rows.Trigger.{names}
use Rattle.shq_terms.specs.declared.axioms.Numbered.{Numbered}
use Rattle.row_cache.specs.Numbers.{AreNumbers}
use Rattle.row_cache.specs.Parts.{part_in}
use Rattle.row_cache.specs.Theory.{parts_at, numbered_parts, named_parts, theory_of}
use Rattle.row_cache.proofs.NumberedParts.{numbered}
use Rattle.row_cache.specs.Rows.{is_name_shape}
use Rattle.row_cache.proofs.Places.{name_shaped}
use Rattle.absorption.specs.Triggers.{name_positions, first_role, inclusion_trigger, trigger_for, premises_for}
use Rattle.absorption.proofs.Positions.{positions_are_names}
use Rattle.absorption.specs.declared.row.Row.{Row}
use Rattle.absorption.specs.declared.row.Trigger.{Trigger}
use Rattle.absorption.specs.declared.row.Trigger.TheVariants.{Always, Names, Edge, End}
use Rattle.absorption.specs.Rows.{plain_trigger, plain_row, plain_rows, IsRowOf, AreRowsOf}
use Rattle.absorption.specs.Places.{FiledRows, all_filed, are_names, MayStandAt, HasPlace, IsFiled}
use Rattle.absorption.specs.Tables.{HasFixedTrigger, IsRowTable}

-- ---- each row has a place

module _ (t : List Shape) (good : IsTable t) where
  both : (cs : List ℕ) → list_all (λ c. ltb c (length t)) cs ≡ true → list_all is_name (map (tree_of t) cs) ≡ true
      → are_names t cs ≡ true
  both [] listed named = refl
  both (c ∷ cs) listed named =
      let l = and_parts (ltb c (length t)) (list_all (λ d. ltb d (length t)) cs) listed in
      let n = and_parts (is_name (tree_of t c)) (list_all is_name (map (tree_of t) cs)) named in
      let here : is_name_shape (shape_of t c) ≡ true = name_shaped t good c (ltb-true c (length t) l.0) ∙ n.0 in
      and_from (ltb c (length t) && is_name_shape (shape_of t c)) (are_names t cs)
      (and_from (ltb c (length t)) (is_name_shape (shape_of t c)) l.0 here) (both cs l.1 n.1)

  named_place : (cs : List Concept) (d : Concept) (ps qs : List ℕ) (o : Option ℕ) (premises : List ℕ)
      → names ps ≡ inclusion_trigger qs o → list_all (λ p. is_name (conjunct_at cs p)) qs ≡ true
      → AreNumbers t premises (premises_for (inclusion cs d) (inclusion_trigger qs o))
      → (0 < length premises) × (are_names t premises ≡ true)
  named_place cs d ps [] None premises e named are = cc
  named_place cs d ps [] (Some r) premises e named are = cc
  named_place cs d ps (q ∷ qs) o premises e named are =
      let long : length premises ≡ suc (length qs) =
      sym (length-map premises (tree_of t)) ∙ ap length are.stand_for ∙ length-map (q ∷ qs) (conjunct_at cs) in
      let all : list_all is_name (map (tree_of t) premises) ≡ true =
      ap (list_all is_name) are.stand_for ∙ list_all-map is_name (conjunct_at cs) (q ∷ qs) ∙ named in
      (omega (arith, long), both premises are.listed all)

  may_stand : (q : Part) (trigger : Trigger) (premises : List ℕ) → plain_trigger trigger ≡ trigger_for q
      → AreNumbers t premises (premises_for q (trigger_for q)) → MayStandAt trigger t premises
  may_stand q Always premises e are = tt
  may_stand q (Edge r) premises e are = tt
  may_stand q (End r) premises e are = tt
  may_stand (range r d) (Names ps) premises e are = cc
  may_stand (inclusion cs d) (Names ps) premises e are =
      named_place cs d ps (name_positions 1 cs) (first_role cs) premises e
      (and_parts (is_ascending (name_positions 1 cs)) (list_all (λ p. is_name (conjunct_at cs p)) (name_positions 1 cs))
      (positions_are_names cs)).1
      are

  has_place : (n : NumberedPart) (r : Row) → IsRowOf t n r → HasPlace t r
  has_place n r h = record { may = may_stand n.part r.trigger r.premises h.trigger_is h.premises_are }

-- what holds of each row of a part that has something
each_row : (t : List Shape) (Q : NumberedPart → Type 0) (P : Row → Type 0)
    → ((n : NumberedPart) (r : Row) → Q n → IsRowOf t n r → P r) → (ns : List NumberedPart) (rows : List Row) → All Q ns
    → AreRowsOf t ns rows → All P rows
each_row t Q P give [] [] all h = All-nil P
each_row t Q P give [] (r ∷ rs) all h = absurd h
each_row t Q P give (n ∷ ns) [] all h = absurd h
each_row t Q P give (n ∷ ns) (r ∷ rs) all h =
    All-cons P r rs (give n r (All-head Q n ns all) h.0) (each_row t Q P give ns rs (All-tail Q n ns all) h.1)

pub have_places : (t : List Shape) → IsTable t → (ns : List NumberedPart) (rows : List Row) → AreRowsOf t ns rows
    → All (HasPlace t) rows
have_places t good ns rows h =
    each_row t (λ n. ℕ) (HasPlace t) (λ n r q is. has_place t good n r is) ns rows (λ k d lt. 0) h

-- ---- each part is the one that its numbers find

abbrev numbered_part : ℕ → ℕ → Part → NumberedPart
numbered_part a p q = record { axiom_number = a; part_number = p; part = q }

each_numbered : (Q : NumberedPart → Type 0) (a first : ℕ) (qs : List Part)
    → ((i : ℕ) → i < length qs → Q (numbered_part a (first + i) (part_in qs i))) → All Q (numbered_parts a first qs)
each_numbered Q a first [] each = All-nil Q
each_numbered Q a first (q ∷ qs) each =
    let here : first + 0 ≡ first = omega arith in
    All-cons Q (numbered_part a first q) (numbered_parts a (first + 1) qs)
    (subst (λ (n : ℕ). Q (numbered_part a n q)) here (each 0 (omega arith)))
    (each_numbered Q a (first + 1) qs
    (λ i lt. (let next : first + suc i ≡ (first + 1) + i = omega arith in
    subst (λ (n : ℕ). Q (numbered_part a n (part_in qs i))) next (each (suc i) (omega arith)))))

module _ (axioms : List Numbered) (ks : List ℕ) where
  abbrev IsThere : NumberedPart → Type 0
  IsThere n = part_at (theory_of axioms ks) n.axiom_number n.part_number ≡ Some n.part

  is_there : (k i : ℕ) → is_among ks k ≡ true → i < length (parts_at axioms k)
      → IsThere (numbered_part k (1 + i) (part_in (parts_at axioms k) i))
  is_there k i among lt =
      let back : (1 + i) - 1 ≡ i = omega arith in
      numbered axioms ks k (1 + i)
      ∙ ap (λ (b : Bool). cond (b && leb 1 (1 + i) && leb (1 + i) (length (parts_at axioms k)))
      (Some (part_in (parts_at axioms k) ((1 + i) - 1))) None)
      among
      ∙ ap (λ (b : Bool). cond (b && leb (1 + i) (length (parts_at axioms k)))
      (Some (part_in (parts_at axioms k) ((1 + i) - 1))) None)
      (le-leb 1 (1 + i) (omega arith))
      ∙ ap (λ (b : Bool). cond b (Some (part_in (parts_at axioms k) ((1 + i) - 1))) None)
      (le-leb (1 + i) (length (parts_at axioms k)) (omega arith))
      ∙ ap (λ (n : ℕ). Some (part_in (parts_at axioms k) n)) back

  each_there : (js : List ℕ) → ((k : ℕ) → is_among js k ≡ true → is_among ks k ≡ true)
      → All IsThere (named_parts axioms js)
  each_there [] sub = All-nil IsThere
  each_there (j ∷ js) sub =
      All-append IsThere (numbered_parts j 1 (parts_at axioms j)) (named_parts axioms js)
      (each_numbered IsThere j 1 (parts_at axioms j)
      (λ i lt. is_there j i (sub j (or_left (eqb j j) (is_among js j) (eq-eqb j j refl))) lt))
      (each_there js (λ k among. sub k (or_right (eqb j k) (is_among js k) among)))

  pub parts_are_there : All IsThere (named_parts axioms ks)
  parts_are_there = each_there ks (λ k among. among)

-- ---- each part is there once

-- how many of the parts have the numbers of n
abbrev alike : NumberedPart → List NumberedPart → ℕ
alike n ms = count_by (λ m. is_numbered m.axiom_number m.part_number n) ms

-- a test as a number
abbrev as_one : Bool → ℕ
as_one b = cond b 1 0

one_at_most : (b : Bool) → as_one b ≤ 1
one_at_most true = omega arith
one_at_most false = omega arith

alike-cons : (n m : NumberedPart) (ms : List NumberedPart)
    → alike n (m ∷ ms) ≡ as_one (is_numbered m.axiom_number m.part_number n) + alike n ms
alike-cons n m ms = sum_by-cons (λ k. as_one (is_numbered k.axiom_number k.part_number n)) m ms

times-cons : (a k : ℕ) (ks : List ℕ) → count_by (λ j. eqb a j) (k ∷ ks) ≡ as_one (eqb a k) + count_by (λ j. eqb a j) ks
times-cons a k ks = sum_by-cons (λ j. as_one (eqb a j)) k ks

other_axiom : (n : NumberedPart) (k first : ℕ) (qs : List Part) → eqb n.axiom_number k ≡ false
    → alike n (numbered_parts k first qs) ≡ 0
other_axiom n k first [] h = refl
other_axiom n k first (q ∷ qs) h =
    let rest = other_axiom n k (first + 1) qs h in
    let here : as_one (eqb n.axiom_number k && eqb n.part_number first) ≡ 0 =
    ap (λ (b : Bool). as_one (b && eqb n.part_number first)) h in
    omega (arith, rest, here, alike-cons n (numbered_part k first q) (numbered_parts k (first + 1) qs))

none_later : (n : NumberedPart) (k first : ℕ) (qs : List Part) → n.part_number < first
    → alike n (numbered_parts k first qs) ≡ 0
none_later n k first [] lt = refl
none_later n k first (q ∷ qs) lt =
    let rest = none_later n k (first + 1) qs (omega arith) in
    let miss : (eqb n.axiom_number k && eqb n.part_number first) ≡ false =
    and_right (eqb n.axiom_number k) (eqb n.part_number first) (ne_eqb n.part_number first (λ e. omega arith)) in
    let here : as_one (eqb n.axiom_number k && eqb n.part_number first) ≡ 0 = ap as_one miss in
    omega (arith, rest, here, alike-cons n (numbered_part k first q) (numbered_parts k (first + 1) qs))

once_in_axiom : (n : NumberedPart) (k first : ℕ) (qs : List Part) → alike n (numbered_parts k first qs) ≤ 1
once_in_axiom n k first [] = omega arith
once_in_axiom n k first (q ∷ qs) =
    let whole = alike-cons n (numbered_part k first q) (numbered_parts k (first + 1) qs) in
    elim (cases_eq n.part_number first) [
      | inl e ↦
          let rest = none_later n k (first + 1) qs (omega arith) in
          let here = one_at_most (eqb n.axiom_number k && eqb n.part_number first) in
          omega (arith, whole, rest, here)
      | inr ne ↦
          let rest = once_in_axiom n k (first + 1) qs in
          let miss : (eqb n.axiom_number k && eqb n.part_number first) ≡ false =
          and_right (eqb n.axiom_number k) (eqb n.part_number first) (ne_eqb n.part_number first ne) in
          let here : as_one (eqb n.axiom_number k && eqb n.part_number first) ≡ 0 = ap as_one miss in
          omega (arith, whole, rest, here)
    ]

-- as often at most as its axiom is named
as_named : (axioms : List Numbered) (n : NumberedPart) (ks : List ℕ)
    → alike n (named_parts axioms ks) ≤ count_by (λ k. eqb n.axiom_number k) ks
as_named axioms n [] = omega arith
as_named axioms n (k ∷ ks) =
    let rest = as_named axioms n ks in
    let here = numbered_parts k 1 (parts_at axioms k) in
    let whole : alike n (named_parts axioms (k ∷ ks)) ≡ alike n here + alike n (named_parts axioms ks) =
    sum_by-append (λ m. as_one (is_numbered m.axiom_number m.part_number n)) here (named_parts axioms ks) in
    let times = times-cons n.axiom_number k ks in
    elim (cases_Bool (eqb n.axiom_number k)) [
      | inl t ↦
          let once = once_in_axiom n k 1 (parts_at axioms k) in
          let one : as_one (eqb n.axiom_number k) ≡ 1 = ap as_one t in
          omega (arith, rest, whole, times, once, one)
      | inr f ↦
          let none = other_axiom n k 1 (parts_at axioms k) f in
          omega (arith, rest, whole, times, none)
    ]

-- a number that passes is listed once
none_listed : (test : ℕ → Bool) (a first count : ℕ) → a < first → count_by (λ k. eqb a k) (passing test first count) ≡ 0
unfolding passing
none_listed test a first zero lt = refl
none_listed test a first (suc count) lt =
    let rest = none_listed test a (first + 1) count (omega arith) in
    let here : as_one (eqb a first) ≡ 0 = ap as_one (ne_eqb a first (λ e. omega arith)) in
    let whole = times-cons a first (passing test (first + 1) count) in
    let listed : count_by (λ k. eqb a k) (first ∷ passing test (first + 1) count) ≡ 0 =
    omega (arith, rest, here, whole) in
    elim (cases_Bool (test first)) [
      | inl t ↦
          ap (λ (b : Bool). count_by (λ k. eqb a k)
          (cond b (first ∷ passing test (first + 1) count) (passing test (first + 1) count)))
          t
          ∙ listed
      | inr f ↦
          ap (λ (b : Bool). count_by (λ k. eqb a k)
          (cond b (first ∷ passing test (first + 1) count) (passing test (first + 1) count)))
          f
          ∙ rest
    ]

listed_once : (test : ℕ → Bool) (a first count : ℕ) → count_by (λ k. eqb a k) (passing test first count) ≤ 1
unfolding passing
listed_once test a first zero = omega arith
listed_once test a first (suc count) =
    let tail = passing test (first + 1) count in
    let whole = times-cons a first tail in
    let rest = listed_once test a (first + 1) count in
    let listed : count_by (λ k. eqb a k) (first ∷ tail) ≤ 1 = elim (cases_eq a first) [
      | inl e ↦
          let none = none_listed test a (first + 1) count (omega arith) in
          let here = one_at_most (eqb a first) in
          omega (arith, none, here, whole)
      | inr ne ↦
          let here : as_one (eqb a first) ≡ 0 = ap as_one (ne_eqb a first ne) in
          omega (arith, rest, here, whole)
    ] in
    elim (cases_Bool (test first)) [
      | inl t ↦ subst (λ (b : Bool). count_by (λ k. eqb a k) (cond b (first ∷ tail) tail) ≤ 1) (sym t) listed
      | inr f ↦ subst (λ (b : Bool). count_by (λ k. eqb a k) (cond b (first ∷ tail) tail) ≤ 1) (sym f) rest
    ]

-- each element is counted
counts_itself : (ms : List NumberedPart) (i : ℕ) (d : NumberedPart) → i < length ms → 1 ≤ alike (get_or ms i d) ms
counts_itself [] i d lt = absurd (omega arith)
counts_itself (m ∷ ms) zero d lt =
    let here : as_one (eqb m.axiom_number m.axiom_number && eqb m.part_number m.part_number) ≡ 1 =
    (λ j. as_one (eq-eqb m.axiom_number m.axiom_number refl j && eq-eqb m.part_number m.part_number refl j)) in
    omega (arith, here, alike-cons m m ms)
counts_itself (m ∷ ms) (suc i) d lt =
    let rest = counts_itself ms i d (omega arith) in
    omega (arith, rest, alike-cons (get_or ms i d) m ms)

pub each_once : (axioms : List Numbered) (s : Limited)
    → All (λ n. alike n (named_parts axioms (member_list s)) ≡ 1) (named_parts axioms (member_list s))
each_once axioms s i d lt =
    let ms = named_parts axioms (member_list s) in
    let n = get_or ms i d in
    let low = counts_itself ms i d lt in
    let high = as_named axioms n (member_list s) in
    let one = listed_once (sets.contains s.members) n.axiom_number 0 (s.limit + 1) in
    omega (arith, low, high, one)

-- ---- as many rows as parts

same_count : (t : List Shape) (n : NumberedPart) (ns : List NumberedPart) (rows : List Row) → AreRowsOf t ns rows
    → count_by (λ r. is_row_of (plain_row r) n) rows ≡ alike n ns
same_count t n [] [] h = refl
same_count t n [] (r ∷ rs) h = absurd h
same_count t n (m ∷ ms) [] h = absurd h
same_count t n (m ∷ ms) (r ∷ rs) h =
    let rest = same_count t n ms rs h.1 in
    sum_by-cons (λ k. as_one (is_row_of (plain_row k) n)) r rs
    ∙ (λ i. as_one (is_numbered (h.0.axiom_is i) (h.0.part_is i) n) + rest i)
    ∙ sym (alike-cons n m ms)

count_map : (p : PlainRow → Bool) (rows : List Row)
    → count_by p (plain_rows rows) ≡ count_by (λ r. p (plain_row r)) rows
count_map p [] = refl
count_map p (r ∷ rs) =
    sum_by-cons (λ k. as_one (p k)) (plain_row r) (plain_rows rs)
    ∙ ap (λ (n : ℕ). as_one (p (plain_row r)) + n) (count_map p rs)
    ∙ sym (sum_by-cons (λ k. as_one (p (plain_row k))) r rs)

-- ---- the table

plain_fits : (theory : Theory) (t : List Shape) (r : Row) → HasFixedTrigger theory t r
    → IsPlainRowOf theory t (plain_row r)
plain_fits theory t r h = record {
  part = h.part;
  is_there = h.is_there;
  listed = h.is_row.listed;
  is_right = ap (row_of h.part) h.is_row.trigger_is ∙ h.is_row.concept_is;
}

has_fixed : (axioms : List Numbered) (ks : List ℕ) (t : List Shape) (n : NumberedPart) (r : Row) → IsThere axioms ks n
    → IsRowOf t n r → HasFixedTrigger (theory_of axioms ks) t r
has_fixed axioms ks t n r there h =
    let theory = theory_of axioms ks in record {
      part = n.part;
      is_there = (λ i. part_at theory (h.axiom_is i) (h.part_is i)) ∙ there;
      is_row = record {
        axiom_is = refl;
        part_is = refl;
        trigger_is = h.trigger_is;
        listed = h.listed;
        concept_is = h.concept_is;
        premises_are = h.premises_are;
      };
    }

pub table_made : (axioms : List Numbered) (s : Limited) (t : List Shape) (rows : List Row) (f : FiledRows)
    → AreRowsOf t (named_parts axioms (member_list s)) rows → IsFiled t rows f → IsRowTable axioms (member_list s) t f
table_made axioms s t rows f h filed =
    let ks = member_list s in
    let theory = theory_of axioms ks in
    let fixed : All (HasFixedTrigger theory t) (all_filed f) =
    All-permutation (HasFixedTrigger theory t) rows (all_filed f) filed.all
    (each_row t (IsThere axioms ks) (HasFixedTrigger theory t) (λ n r there is. has_fixed axioms ks t n r there is)
    (named_parts axioms ks) rows (parts_are_there axioms ks) h) in
    record {
      choice = record {
        rows_fit =
            All-map (IsPlainRowOf theory t) plain_row (all_filed f)
            (All-weaker (HasFixedTrigger theory t) (λ r. IsPlainRowOf theory t (plain_row r))
            (λ r is. plain_fits theory t r is) (all_filed f) fixed);
        each_once =
            All-weaker (λ n. alike n (named_parts axioms ks) ≡ 1)
            (λ n. count_by (λ row. is_row_of row n) (plain_rows (all_filed f)) ≡ 1)
            (λ n one. count_map (λ row. is_row_of row n) (all_filed f)
            ∙ sum_by-IsPermutation (λ r. cond (is_row_of (plain_row r) n) 1 0) rows (all_filed f) filed.all
            ∙ same_count t n (named_parts axioms ks) rows h ∙ one)
            (named_parts axioms ks) (each_once axioms s);
      };
      fixed = fixed;
      places = filed.places;
      keys = filed.keys;
    }

-- ---- the numbers of the axioms

pub members_within : (s : Limited) (n : ℕ) (numbers : List ℕ) → numbers ≡ member_list s → IsWithin n s.members
    → All (λ k. (1 ≤ k) × (k ≤ n)) numbers
members_within s n numbers e within =
    subst (λ (ks : List ℕ). All (λ k. (1 ≤ k) × (k ≤ n)) ks) (sym e)
    (All-from_get_or (λ k. (1 ≤ k) × (k ≤ n)) (member_list s) 0
    (λ i lt. within (get_or (member_list s) i 0) (member_list-at s i lt).0))
