-- No two names of a workload are the same, and each stands at the place of its number.
use Rattle.std.proofs.Common.{◌≡◌, ℕ, zero, suc, ◌+◌, ◌*◌, ◌<◌, ◌≤◌, Bool, true, false, not, cond, ◌&&◌, List, [], ◌∷◌}
use Rattle.std.proofs.Common.{◌++◌, length, position, Some, None, refl, ap, sym, ◌∙◌, subst, arith, append_assoc}
use Rattle.std.proofs.Common.{append-nil, length-append, inl, inr, codes, decimal, nat_lt, nat_eq}
use Rattle.std.proofs.lemmas.Bool.{cases_lt, and_parts, and_from}
use Rattle.std.proofs.lemmas.Bool.Decides.{nat_tests}
use Rattle.std.proofs.lemmas.Fmt.{decimal_injective}
use Rattle.std.proofs.lemmas.List.Folds.{list_all-append}
use Rattle.std.proofs.lemmas.Slice.Eq.{bytes_eq-Decides}
use Rattle.std.specs.List.{list_all, prefix_len}
use Rattle.std.specs.Str.{bytes_eq}
use Rattle.shq_terms.specs.Names.{with_at, with_name}
use Rattle.workload.specs.WorkloadAxioms.{full_name, kernel_classes, numbered_class, group_classes, workload_classes}
use Rattle.workload.specs.WorkloadAxioms.{class_a, class_b, class_c, class_d}

-- ---- the first place in a list

module _ (w : List ℕ) where
  -- the name is none of these
  abbrev pub is_new : List (List ℕ) → Bool
  is_new names = list_all (λ v. not (bytes_eq w v)) names

  all_passed : (names : List (List ℕ)) → is_new names ≡ true → prefix_len (λ v. not (bytes_eq w v)) names ≡ length names
  all_passed [] h = refl
  all_passed (v ∷ names) h =
      let first : not (bytes_eq w v) ≡ true = (and_parts (not (bytes_eq w v)) (is_new names) h).0 in
      let others : prefix_len (λ u. not (bytes_eq w u)) names ≡ length names =
      all_passed names (and_parts (not (bytes_eq w v)) (is_new names) h).1 in
      let both : 1 + prefix_len (λ u. not (bytes_eq w u)) names ≡ suc (length names) = omega (arith, others) in
      ap (λ b. cond b (1 + prefix_len (λ u. not (bytes_eq w u)) names) 0) first ∙ both

  not_less : (n : ℕ) → nat_lt n n ≡ false
  not_less n = grind (arith, nat_tests)

  -- a new name has no place
  pub has_no_place : (names : List (List ℕ)) → is_new names ≡ true → position (bytes_eq w) names ≡ None
  has_no_place names h =
      ap (λ k. cond (nat_lt k (length names)) (Some k) None) (all_passed names h)
      ∙ ap (λ b. cond b (Some (length names)) None) (not_less (length names))

  less_by : (n k : ℕ) → nat_lt n (n + suc k) ≡ true
  less_by n k = grind (arith, nat_tests)

  front : (names : List (List ℕ)) (v : List ℕ) (others : List (List ℕ)) → is_new names ≡ true → bytes_eq w v ≡ true
      → prefix_len (λ u. not (bytes_eq w u)) (names ++ v ∷ others) ≡ length names
  front [] v others h same = ap (λ b. cond (not b) (1 + prefix_len (λ u. not (bytes_eq w u)) others) 0) same
  front (u ∷ names) v others h same =
      let first : not (bytes_eq w u) ≡ true = (and_parts (not (bytes_eq w u)) (is_new names) h).0 in
      let rest : ℕ = prefix_len (λ x. not (bytes_eq w x)) (names ++ v ∷ others) in
      let long : rest ≡ length names = front names v others (and_parts (not (bytes_eq w u)) (is_new names) h).1 same in
      let both : 1 + rest ≡ suc (length names) = omega (arith, long) in
      ap (λ b. cond b (1 + rest) 0) first ∙ both

  -- a name behind new ones is at the place after them
  pub has_place : (names others : List (List ℕ)) → is_new names ≡ true
      → position (bytes_eq w) (names ++ w ∷ others) ≡ Some (length names)
  has_place names others h =
      let all : List (List ℕ) = names ++ w ∷ others in
      let long : length all ≡ length names + suc (length others) = length-append names (w ∷ others) in
      let same : bytes_eq w w ≡ true = (bytes_eq-Decides w w).1 refl in
      ap (λ k. cond (nat_lt k (length all)) (Some k) None) (front names w others h same)
      ∙ ap (λ k. cond (nat_lt (length names) k) (Some (length names)) None) long
      ∙ ap (λ b. cond b (Some (length names)) None) (less_by (length names) (length others))

  new_in_both : (names others : List (List ℕ)) → is_new names ≡ true → is_new others ≡ true
      → is_new (names ++ others) ≡ true
  new_in_both names others first second =
      list_all-append (λ v. not (bytes_eq w v)) names others ∙ and_from (is_new names) (is_new others) first second

  -- a name that is none of the kernel's and none of earlier groups is new behind them
  not_before : (m : ℕ) → is_new kernel_classes ≡ true → ((j : ℕ) → j < m → is_new (group_classes j) ≡ true) → (k : ℕ)
      → k < m → is_new (workload_classes k) ≡ true
  not_before m kernel groups zero less = kernel
  not_before m kernel groups (suc k) less =
      new_in_both (workload_classes k) (group_classes (k + 1)) (not_before m kernel groups k (omega (arith, less)))
      (groups (k + 1) (omega (arith, less)))

-- ---- names with numbers

-- the prefix and a letter tell nothing of two names apart
same_letter : (b : ℕ) (v w : List ℕ) → bytes_eq (full_name (b ∷ v)) (full_name (b ∷ w)) ≡ bytes_eq v w
unfolding full_name
same_letter b v w = ap (λ x. x && bytes_eq v w) (same_number b)
  where
    same_number : (n : ℕ) → nat_eq n n ≡ true
    same_number n = grind (arith, nat_tests)

other_number : (m j : ℕ) → j < m → m ≤ 4000 → bytes_eq (decimal m) (decimal j) ≡ false
other_number m j less few = by (bytes_eq (decimal m) (decimal j)) refl
  where
    by : (b : Bool) → bytes_eq (decimal m) (decimal j) ≡ b → b ≡ false
    by false h = refl
    by true h =
        let same : decimal m ≡ decimal j = (bytes_eq-Decides (decimal m) (decimal j)).0 h in
        let clash : m ≡ j = decimal_injective m j (omega (arith, few)) (omega (arith, less, few)) same in
        absurd (omega (arith, clash, less))

module _ (m j : ℕ) (less : j < m) (few : m ≤ 4000) where
  differs : (b : ℕ) → bytes_eq (full_name (b ∷ decimal m)) (full_name (b ∷ decimal j)) ≡ false
  differs b = same_letter b (decimal m) (decimal j) ∙ other_number m j less few

  a_is_other : is_new (numbered_class (codes "A") m) (group_classes j) ≡ true
  unfolding full_name
  a_is_other = ap (λ b. not b && true) (differs 65)

  b_is_other : is_new (numbered_class (codes "B") m) (group_classes j) ≡ true
  unfolding full_name
  b_is_other = ap (λ b. not b && true) (differs 66)

  c_is_other : is_new (numbered_class (codes "C") m) (group_classes j) ≡ true
  unfolding full_name
  c_is_other = ap (λ b. not b && true) (differs 67)

  d_is_other : is_new (numbered_class (codes "D") m) (group_classes j) ≡ true
  unfolding full_name
  d_is_other = ap (λ b. not b && true) (differs 68)

-- ---- the names of a group behind those of the earlier ones

module _ (k : ℕ) (few : k + 1 ≤ 4000) where
  abbrev a : List ℕ
  a = numbered_class (codes "A") (k + 1)

  abbrev b : List ℕ
  b = numbered_class (codes "B") (k + 1)

  abbrev c : List ℕ
  c = numbered_class (codes "C") (k + 1)

  abbrev d : List ℕ
  d = numbered_class (codes "D") (k + 1)

  abbrev before : List (List ℕ)
  before = workload_classes k

  pub a_is_new : is_new a before ≡ true
  unfolding full_name
  a_is_new = not_before a (k + 1) refl (λ j less. a_is_other (k + 1) j less few) k (omega arith)

  pub b_is_new : is_new b (before ++ a ∷ []) ≡ true
  unfolding full_name
  b_is_new =
      new_in_both b before (a ∷ [])
      (not_before b (k + 1) refl (λ j less. b_is_other (k + 1) j less few) k (omega arith)) refl

  pub c_is_new : is_new c (before ++ a ∷ b ∷ []) ≡ true
  unfolding full_name
  c_is_new =
      new_in_both c before (a ∷ b ∷ [])
      (not_before c (k + 1) refl (λ j less. c_is_other (k + 1) j less few) k (omega arith)) refl

  pub d_is_new : is_new d (before ++ a ∷ b ∷ c ∷ []) ≡ true
  unfolding full_name
  d_is_new =
      new_in_both d before (a ∷ b ∷ c ∷ [])
      (not_before d (k + 1) refl (λ j less. d_is_other (k + 1) j less few) k (omega arith)) refl

-- ---- places in the whole list

pub class_count : (k : ℕ) → length (workload_classes k) ≡ 4 * k + 7
class_count zero = refl
class_count (suc k) = omega (arith, length-append (workload_classes k) (group_classes (k + 1)), class_count k)

-- the names of more groups begin with those of fewer
pub record Begins (k n : ℕ) : Type 0 where
  pub later : List (List ℕ)
  pub made : workload_classes n ≡ workload_classes k ++ later

begins_with_all : (k n : ℕ) → n ≡ k → Begins k n
begins_with_all k n same =
    record { later = []; made = ap workload_classes same ∙ sym (append-nil (workload_classes k)) }

pub begins : (k n : ℕ) → k ≤ n → Begins k n
begins k zero less = begins_with_all k zero (omega (arith, less))
begins k (suc n) less = elim (cases_lt k (suc n)) [
  | inl below ↦
      let front : Begins k n = begins k n (omega (arith, below)) in
      record {
        later = front.later ++ group_classes (n + 1);
        made =
            ap (λ l. l ++ group_classes (n + 1)) front.made
            ∙ append_assoc (workload_classes k) front.later (group_classes (n + 1));
      }
  | inr past ↦ begins_with_all k (suc n) (omega (arith, less, past))
]

-- the classes of the kernel are at their places
pub record KernelPlaces (names : List (List ℕ)) : Type 0 where
  pub q0 : position (bytes_eq (full_name (codes "Q0"))) names ≡ Some 0
  pub q1 : position (bytes_eq (full_name (codes "Q1"))) names ≡ Some 1
  pub p0 : position (bytes_eq (full_name (codes "P0"))) names ≡ Some 2
  pub q2 : position (bytes_eq (full_name (codes "Q2"))) names ≡ Some 3
  pub p1 : position (bytes_eq (full_name (codes "P1"))) names ≡ Some 4
  pub q3 : position (bytes_eq (full_name (codes "Q3"))) names ≡ Some 5
  pub p2 : position (bytes_eq (full_name (codes "P2"))) names ≡ Some 6

module _ (later : List (List ℕ)) where
  abbrev at : (before : List (List ℕ)) (w : List ℕ) (others : List (List ℕ)) → is_new w before ≡ true
      → position (bytes_eq w) (before ++ w ∷ (others ++ later)) ≡ Some (length before)
  at before w others h = has_place w before (others ++ later) h

  kernel_places : KernelPlaces (kernel_classes ++ later)
  unfolding full_name
  kernel_places = record {
    q0 =
        at [] (full_name (codes "Q0"))
        (full_name (codes "Q1") ∷ full_name (codes "P0") ∷ full_name (codes "Q2") ∷ full_name (codes "P1")
        ∷ full_name (codes "Q3") ∷ full_name (codes "P2") ∷ [])
        refl;
    q1 =
        at (full_name (codes "Q0") ∷ []) (full_name (codes "Q1"))
        (full_name (codes "P0") ∷ full_name (codes "Q2") ∷ full_name (codes "P1") ∷ full_name (codes "Q3")
        ∷ full_name (codes "P2") ∷ [])
        refl;
    p0 =
        at (full_name (codes "Q0") ∷ full_name (codes "Q1") ∷ []) (full_name (codes "P0"))
        (full_name (codes "Q2") ∷ full_name (codes "P1") ∷ full_name (codes "Q3") ∷ full_name (codes "P2") ∷ []) refl;
    q2 =
        at (full_name (codes "Q0") ∷ full_name (codes "Q1") ∷ full_name (codes "P0") ∷ []) (full_name (codes "Q2"))
        (full_name (codes "P1") ∷ full_name (codes "Q3") ∷ full_name (codes "P2") ∷ []) refl;
    p1 =
        at (full_name (codes "Q0") ∷ full_name (codes "Q1") ∷ full_name (codes "P0") ∷ full_name (codes "Q2") ∷ [])
        (full_name (codes "P1")) (full_name (codes "Q3") ∷ full_name (codes "P2") ∷ []) refl;
    q3 =
        at (full_name (codes "Q0") ∷ full_name (codes "Q1") ∷ full_name (codes "P0") ∷ full_name (codes "Q2")
        ∷ full_name (codes "P1") ∷ [])
        (full_name (codes "Q3")) (full_name (codes "P2") ∷ []) refl;
    p2 =
        at (full_name (codes "Q0") ∷ full_name (codes "Q1") ∷ full_name (codes "P0") ∷ full_name (codes "Q2")
        ∷ full_name (codes "P1") ∷ full_name (codes "Q3") ∷ [])
        (full_name (codes "P2")) [] refl;
  }

pub kernel_found : (n : ℕ) → KernelPlaces (workload_classes n)
kernel_found n =
    let front : Begins 0 n = begins 0 n (omega arith) in subst KernelPlaces (sym front.made) (kernel_places front.later)

-- and so are those of a group
pub record GroupPlaces (m : ℕ) (names : List (List ℕ)) : Type 0 where
  pub a : position (bytes_eq (numbered_class (codes "A") m)) names ≡ Some (class_a m)
  pub b : position (bytes_eq (numbered_class (codes "B") m)) names ≡ Some (class_b m)
  pub c : position (bytes_eq (numbered_class (codes "C") m)) names ≡ Some (class_c m)
  pub d : position (bytes_eq (numbered_class (codes "D") m)) names ≡ Some (class_d m)

module _ (k : ℕ) (few : k + 1 ≤ 4000) (later : List (List ℕ)) where
  -- the names with some of the group in front
  cut_at : (first others : List (List ℕ)) → first ++ others ≡ group_classes (k + 1) ++ later
      → workload_classes (suc k) ++ later ≡ (workload_classes k ++ first) ++ others
  cut_at first others same =
      append_assoc (workload_classes k) (group_classes (k + 1)) later ∙ ap (λ l. workload_classes k ++ l) (sym same)
      ∙ sym (append_assoc (workload_classes k) first others)

  place_by : (w : List ℕ) (first others : List (List ℕ)) (place : ℕ)
      → first ++ w ∷ others ≡ group_classes (k + 1) ++ later → is_new w (workload_classes k ++ first) ≡ true
      → length (workload_classes k ++ first) ≡ place
      → position (bytes_eq w) (workload_classes (suc k) ++ later) ≡ Some place
  place_by w first others place same new long =
      ap (position (bytes_eq w)) (cut_at first (w ∷ others) same) ∙ has_place w (workload_classes k ++ first) others new
      ∙ ap Some long

  group_places : GroupPlaces (k + 1) (workload_classes (suc k) ++ later)
  group_places =
      let a : List ℕ = numbered_class (codes "A") (k + 1) in
      let b : List ℕ = numbered_class (codes "B") (k + 1) in
      let c : List ℕ = numbered_class (codes "C") (k + 1) in
      let d : List ℕ = numbered_class (codes "D") (k + 1) in
      let none : workload_classes k ++ [] ≡ workload_classes k = append-nil (workload_classes k) in
      record {
        a = place_by a [] (b ∷ c ∷ d ∷ later) (class_a (k + 1)) refl (ap (is_new a) none ∙ a_is_new k few)
            (omega (arith, ap length none, class_count k));
        b = place_by b (a ∷ []) (c ∷ d ∷ later) (class_b (k + 1)) refl (b_is_new k few)
            (omega (arith, length-append (workload_classes k) (a ∷ []), class_count k));
        c = place_by c (a ∷ b ∷ []) (d ∷ later) (class_c (k + 1)) refl (c_is_new k few)
            (omega (arith, length-append (workload_classes k) (a ∷ b ∷ []), class_count k));
        d = place_by d (a ∷ b ∷ c ∷ []) later (class_d (k + 1)) refl (d_is_new k few)
            (omega (arith, length-append (workload_classes k) (a ∷ b ∷ c ∷ []), class_count k));
      }

pub group_found : (k n : ℕ) → k < n → n ≤ 4000 → GroupPlaces (k + 1) (workload_classes n)
group_found k n less few =
    let front : Begins (suc k) n = begins (suc k) n (omega (arith, less)) in
    subst (GroupPlaces (k + 1)) (sym front.made) (group_places k (omega (arith, less, few)) front.later)

-- ---- the list as it grows

pub grows : (w : List ℕ) (names : List (List ℕ)) → is_new w names ≡ true → with_name names w ≡ names ++ w ∷ []
grows w names new = ap (λ r. with_at r names w) (has_no_place w names new)

pub stays : (w : List ℕ) (names others : List (List ℕ)) → is_new w names ≡ true
    → with_name (names ++ w ∷ others) w ≡ names ++ w ∷ others
stays w names others new = ap (λ r. with_at r (names ++ w ∷ others) w) (has_place w names others new)
