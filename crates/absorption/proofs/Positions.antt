-- Each part has a row with its trigger.
use Rattle.std.proofs.Common.{rules, ◌≡◌, ℕ, suc, ◌+◌, ◌<◌, ◌≤◌, Bool, true, cond, ltb, leb, List, [], ◌∷◌, length}
use Rattle.std.proofs.Common.{get_or, Option, Some, None, refl, ap, ◌∙◌, arith, inl, inr}
use Rattle.std.specs.Prelude.{IsSome}
use Rattle.std.specs.List.{list_all, list_any}
use Rattle.std.specs.Option.{option_or}
use Rattle.std.proofs.lemmas.Bool.{cases_Bool, and_parts, and_from, le-leb, leb-true, lt-ltb, eq-eqb, or_left, or_right}
use Rattle.shq_terms.specs.Concept.{Concept, top, some_of}
use Rattle.calculus_specs.specs.Rows.{Part, inclusion, range, conjunct_at, is_name, is_ascending, are_name_positions}
use Rattle.calculus_specs.specs.Rows.{is_some_of, row_concept, row_of}
use Rattle.absorption.specs.Triggers.{name_positions, role_of_some, first_role, inclusion_trigger, fixed_concept}

-- ---- positions of names

-- none is below the first position
low : (first least : ℕ) (cs : List Concept) → least ≤ first
    → list_all (λ k. leb least k) (name_positions first cs) ≡ true
low first least [] le = refl
low first least (c ∷ cs) le =
    let rest : list_all (λ k. leb least k) (name_positions (first + 1) cs) ≡ true =
    low (first + 1) least cs (omega arith) in
    elim (cases_Bool (is_name c)) [
      | inl t ↦
          rw t (and_from (leb least first) (list_all (λ k. leb least k) (name_positions (first + 1) cs))
          (le-leb least first le) rest)
      | inr f ↦ rw f rest
    ]

ascends_from : (x : ℕ) (xs : List ℕ) → is_ascending xs ≡ true → list_all (λ k. leb (x + 1) k) xs ≡ true
    → is_ascending (x ∷ xs) ≡ true
ascends_from x [] h lows = refl
ascends_from x (y ∷ ys) h lows =
    let le : x + 1 ≤ y = leb-true (x + 1) y (and_parts (leb (x + 1) y) (list_all (λ k. leb (x + 1) k) ys) lows).0 in
    and_from (ltb x y) (is_ascending (y ∷ ys)) (lt-ltb x y (omega arith)) h

ascends : (first : ℕ) (cs : List Concept) → is_ascending (name_positions first cs) ≡ true
ascends first [] = refl
ascends first (c ∷ cs) =
    let rest = ascends (first + 1) cs in
    elim (cases_Bool (is_name c)) [
      | inl t ↦
          rw t (ascends_from first (name_positions (first + 1) cs) rest (low (first + 1) (first + 1) cs (omega arith)))
      | inr f ↦ rw f rest
    ]

-- each is the position of a name
are_names : (at : ℕ → Concept) (first : ℕ) (cs : List Concept)
    → ((j : ℕ) → j < length cs → at (first + j) ≡ get_or cs j top)
    → list_all (λ k. is_name (at k)) (name_positions first cs) ≡ true
are_names at first [] places = refl
are_names at first (c ∷ cs) places =
    let later : (j : ℕ) → j < length cs → at ((first + 1) + j) ≡ get_or cs j top =
    λ j lt. (let e : (first + 1) + j ≡ first + suc j = omega arith in ap at e ∙ places (suc j) (omega arith)) in
    let rest : list_all (λ k. is_name (at k)) (name_positions (first + 1) cs) ≡ true =
    are_names at (first + 1) cs later in
    elim (cases_Bool (is_name c)) [
      | inl t ↦
          let e : first ≡ first + 0 = omega arith in
          let here : is_name (at first) ≡ true = ap is_name (ap at e ∙ places 0 (omega arith)) ∙ t in
          rw t
          (and_from (is_name (at first)) (list_all (λ k. is_name (at k)) (name_positions (first + 1) cs)) here rest)
      | inr f ↦ rw f rest
    ]

pub positions_are_names : (cs : List Concept) → are_name_positions cs (name_positions 1 cs) ≡ true
positions_are_names cs =
    let places : (j : ℕ) → j < length cs → conjunct_at cs (1 + j) ≡ get_or cs j top =
    λ j lt. (let e : 1 + j ≡ suc j = omega arith in ap (conjunct_at cs) e) in
    and_from (is_ascending (name_positions 1 cs)) (list_all (λ k. is_name (conjunct_at cs k)) (name_positions 1 cs))
    (ascends 1 cs) (are_names (conjunct_at cs) 1 cs places)

-- ---- the first existential restriction

role_is : (c : Concept) (r : ℕ) → role_of_some c ≡ Some r → is_some_of r c ≡ true
role_is (some_of s c) r e = eq-eqb s r (cc)
role_is _ r e = cc

first_or_later : (c : Concept) (cs : List Concept) (r : ℕ) (o : Option ℕ) → role_of_some c ≡ o
    → (first_role cs ≡ Some r → list_any (is_some_of r) cs ≡ true) → option_or o (first_role cs) ≡ Some r
    → list_any (is_some_of r) (c ∷ cs) ≡ true
first_or_later c cs r None at later e = or_right (is_some_of r c) (list_any (is_some_of r) cs) (later e)
first_or_later c cs r (Some s) at later e = or_left (is_some_of r c) (list_any (is_some_of r) cs) (role_is c r (at ∙ e))

pub first_is_there : (cs : List Concept) (r : ℕ) → first_role cs ≡ Some r → list_any (is_some_of r) cs ≡ true
first_is_there [] r e = cc
first_is_there (c ∷ cs) r e = first_or_later c cs r (role_of_some c) refl (first_is_there cs r) e

-- ---- the row of a part

has_row : (cs : List Concept) (d : Concept) (ps : List ℕ) (o : Option ℕ) → are_name_positions cs ps ≡ true
    → ((r : ℕ) → o ≡ Some r → list_any (is_some_of r) cs ≡ true)
    → row_of (inclusion cs d) (inclusion_trigger ps o) ≡ Some (row_concept cs d ps)
has_row cs d [] None named there = refl
has_row cs d [] (Some r) named there = ap (λ (b : Bool). cond b (Some (row_concept cs d [])) None) (there r refl)
has_row cs d (p ∷ ps) o named there = ap (λ (b : Bool). cond b (Some (row_concept cs d (p ∷ ps))) None) named

-- an inclusion's row has the concept for all names among the conjuncts
pub inclusion_row : (cs : List Concept) (d : Concept)
    → fixed_concept (inclusion cs d) ≡ Some (row_concept cs d (name_positions 1 cs))
inclusion_row cs d = has_row cs d (name_positions 1 cs) (first_role cs) (positions_are_names cs) (first_is_there cs)

pub range_row : (r : ℕ) (d : Concept) → fixed_concept (range r d) ≡ Some d
range_row r d = ap (λ (b : Bool). cond b (Some d) None) (eq-eqb r r refl)

is_some : {A : Type 0} (o : Option A) (a : A) → o ≡ Some a → IsSome o
is_some None a e = cc
is_some (Some b) a e = search rules

pub part_has_row : (q : Part) → IsSome (fixed_concept q)
part_has_row (inclusion cs d) =
    is_some (fixed_concept (inclusion cs d)) (row_concept cs d (name_positions 1 cs)) (inclusion_row cs d)
part_has_row (range r d) = is_some (fixed_concept (range r d)) d (range_row r d)
