-- Rows of sets of roles.
use Rattle.std.proofs.Common.{◌≡◌, ℕ, suc, ◌+◌, ◌<◌, ◌≤◌, ◌≢◌, ◌&&◌, ◌||◌, eqb, Bool, true, false, List, [], ◌∷◌, ◌++◌}
use Rattle.std.proofs.Common.{length, get_or, drop, refl, ap, sym, ◌∙◌, arith, inl, inr, add-one, eq-eqb, ne_eqb, subst}
use Rattle.std.proofs.Common.{length-append, drop-cons, take}
use Rattle.std.proofs.Math.ListN.{set, get_or-append}
use Rattle.std.proofs.Math.Bool.{or_assoc, or-false, and-or_distrib_right}
use Rattle.std.proofs.lemmas.Bool.{cases_eq, cases_lt}
use Rattle.std.proofs.Math.Seq.{get_or-append_seam, take-append_seam}
use Rattle.std.proofs.lemmas.List.{get_or_past, get_or-set_same, get_or-set_other}
use Rattle.shq_terms.proofs.Bools.{or_and_gathered}
use Rattle.role_box.specs.Rows.{has, linked}
use Rattle.role_box.specs.declared.role_axiom.RoleAxiom.{RoleAxiom}
use Rattle.role_box.specs.Steps.{is_among, leads}
use Rattle.role_box.specs.Paths.{has_path, same_or_leads}
use Rattle.role_box.specs.Closure.{any_below}
use Rattle.role_box.proofs.Paths.{has_path-same}
use Rattle.lane_sieve.proofs.Next.{contains-past}

pub linked_row : (rows : List (List ℕ)) (r s : ℕ) (row : List ℕ) → get_or rows r [] ≡ row → linked rows r s ≡ has row s
unfolding linked
linked_row rows r s row e = ap (λ (x : List ℕ). has x s) e

pub linked_same_row : (old rows : List (List ℕ)) (r s : ℕ) → get_or rows r [] ≡ get_or old r []
    → linked rows r s ≡ linked old r s
unfolding linked
linked_same_row old rows r s e = ap (λ (x : List ℕ). has x s) e

pub linked-set_same : (rows : List (List ℕ)) (i s : ℕ) (row : List ℕ) → i < length rows
    → linked (set rows i row) i s ≡ has row s
linked-set_same rows i s row lt = linked_row (set rows i row) i s row (get_or-set_same rows i row [] lt)

pub linked-set_other : (rows : List (List ℕ)) (i r s : ℕ) (row : List ℕ) → r ≢ i
    → linked (set rows i row) r s ≡ linked rows r s
linked-set_other rows i r s row ne = linked_same_row rows (set rows i row) r s (get_or-set_other rows i r row [] ne)

pub linked_past : (rows : List (List ℕ)) (r s : ℕ) → length rows ≤ r → linked rows r s ≡ false
linked_past rows r s le = linked_row rows r s [] (get_or_past rows r [] le) ∙ contains-past [] s (omega arith)

-- ---- a row is changed

-- one row has more roles, the others are as before
pub linked-set_more : (rows : List (List ℕ)) (i : ℕ) (row : List ℕ) (more : ℕ → Bool) → i < length rows
    → ((s : ℕ) → has row s ≡ (has (get_or rows i []) s || more s))
    → (r s : ℕ) → linked (set rows i row) r s ≡ (linked rows r s || (eqb i r && more s))
linked-set_more rows i row more lt h r s =
    elim (cases_eq i r) [
      | inl e ↦
          (let hit : eqb i r ≡ true = eq-eqb i r e in
          let now : linked (set rows i row) i s ≡ has row s = linked-set_same rows i s row lt in
          let was : linked rows i s ≡ has (get_or rows i []) s = linked_row rows i s (get_or rows i []) refl in
          let here = h s in
          let both : (true && more s) ≡ more s = refl in
          cc)
      | inr ne ↦
          (let miss : eqb i r ≡ false = ne_eqb i r ne in
          let now : linked (set rows i row) r s ≡ linked rows r s = linked-set_other rows i r s row (λ q. ne (sym q)) in
          let neither : (false && more s) ≡ false = refl in
          let rest : (linked rows r s || false) ≡ linked rows r s = or-false (linked rows r s) in
          cc)
    ]

-- ---- one row more

pub linked-push_same : (rows : List (List ℕ)) (row : List ℕ) (r s : ℕ) → r ≡ length rows
    → linked (rows ++ row ∷ []) r s ≡ has row s
linked-push_same rows row r s e =
    linked_row (rows ++ row ∷ []) r s row
    (ap (λ (k : ℕ). get_or (rows ++ row ∷ []) k []) e ∙ get_or-append_seam rows row [] [])

pub linked-push_other : (rows : List (List ℕ)) (row : List ℕ) (r s : ℕ) → r < length rows
    → linked (rows ++ row ∷ []) r s ≡ linked rows r s
linked-push_other rows row r s lt = linked_same_row rows (rows ++ row ∷ []) r s (get_or-append rows (row ∷ []) [] r lt)

-- ---- the rows that are passed by way of a middle role

pub record IsPassed (old rows : List (List ℕ)) (through : List ℕ) (middle place : ℕ) : Type 0 where
  pub passed : (r s : ℕ) → r < place → linked rows r s ≡ (linked old r s || (linked old r middle && has through s))
  pub kept : (r s : ℕ) → place ≤ r → linked rows r s ≡ linked old r s

pub passed_more : (old rows : List (List ℕ)) (through : List ℕ) (middle place : ℕ) (row : List ℕ) (passes : Bool)
    → place < length rows
    → passes ≡ has (get_or rows place []) middle
    → ((s : ℕ) → has row s ≡ (has (get_or rows place []) s || (passes && has through s)))
    → IsPassed old rows through middle place → IsPassed old (set rows place row) through middle (place + 1)
passed_more old rows through middle place row passes lt test h before =
    record {
      passed = λ r s within.
          elim (cases_eq r place) [
            | inl e ↦
                (let now : linked (set rows place row) place s ≡ has row s = linked-set_same rows place s row lt in
                let was : linked rows place s ≡ has (get_or rows place []) s =
                linked_row rows place s (get_or rows place []) refl in
                let was_middle : linked rows place middle ≡ has (get_or rows place []) middle =
                linked_row rows place middle (get_or rows place []) refl in
                let old_row : linked rows place s ≡ linked old place s = before.kept place s (omega arith) in
                let old_middle : linked rows place middle ≡ linked old place middle =
                before.kept place middle (omega arith) in
                let here = h s in
                cc)
            | inr ne ↦
                (let now : linked (set rows place row) r s ≡ linked rows r s = linked-set_other rows place r s row ne in
                let earlier = before.passed r s (omega arith) in
                cc)
          ];
      kept = λ r s above.
          (let ne : r ≡ place → ⊥ = omega arith in
          let now : linked (set rows place row) r s ≡ linked rows r s = linked-set_other rows place r s row ne in
          let earlier = before.kept r s (omega arith) in
          cc);
    }

-- all rows are passed
pub all_passed : (old rows : List (List ℕ)) (middle place : ℕ) → length rows ≡ length old → length old ≤ place
    → IsPassed old rows (get_or old middle []) middle place
    → (r s : ℕ) → linked rows r s ≡ (linked old r s || (linked old r middle && linked old middle s))
all_passed old rows middle place same le before r s =
    let through : linked old middle s ≡ has (get_or old middle []) s =
    linked_row old middle s (get_or old middle []) refl in
    elim (cases_lt r place) [
      | inl lt ↦ (let passed = before.passed r s lt in cc)
      | inr ge ↦
          (let none : linked old r s ≡ false = linked_past old r s (omega arith) in
          let no_middle : linked old r middle ≡ false = linked_past old r middle (omega arith) in
          let none' : linked rows r s ≡ false = linked_past rows r s (omega arith) in
          let neither : (false && linked old middle s) ≡ false = refl in
          let nothing : (false || false) ≡ false = refl in
          cc)
    ]

-- paths by way of one more role
pub path_more : (base : ℕ → ℕ → Bool) (old rows : List (List ℕ)) (middle : ℕ)
    → ((r s : ℕ) → linked rows r s ≡ (linked old r s || (linked old r middle && linked old middle s)))
    → ((r s : ℕ) → linked old r s ≡ has_path base middle r s)
    → (r s : ℕ) → linked rows r s ≡ has_path base (middle + 1) r s
path_more base old rows middle passed before r s =
    let now = passed r s in
    let a = before r s in
    let b = before r middle in
    let d = before middle s in
    let last : has_path base (suc middle) r s
    ≡ (has_path base middle r s || (has_path base middle r middle && has_path base middle middle s)) = refl in
    rw add-one cc

-- each role alone in its row
pub record IsOwn (rows : List (List ℕ)) (count : ℕ) : Type 0 where
  pub count_is : length rows ≡ count
  pub own : (r s : ℕ) → r < count → linked rows r s ≡ eqb r s

pub own_more : (rows : List (List ℕ)) (row : List ℕ) (empty : List ℕ) (role : ℕ)
    → ((s : ℕ) → has empty s ≡ false) → ((s : ℕ) → has row s ≡ (has empty s || eqb role s))
    → IsOwn rows role → IsOwn (rows ++ row ∷ []) (role + 1)
own_more rows row empty role none more before =
    record {
      count_is = (let e = length-append rows (row ∷ []) in let n = before.count_is in omega (arith, e));
      own = λ r s within.
          elim (cases_eq r role) [
            | inl e ↦
                (let same : r ≡ length rows = (let n = before.count_is in cc) in
                let now : linked (rows ++ row ∷ []) r s ≡ has row s = linked-push_same rows row r s same in
                let here = more s in
                let nothing = none s in
                let only : (false || eqb role s) ≡ eqb role s = refl in
                cc)
            | inr ne ↦
                (let lt : r < role = omega arith in
                let n = before.count_is in
                let now : linked (rows ++ row ∷ []) r s ≡ linked rows r s =
                linked-push_other rows row r s (omega arith) in
                let earlier = before.own r s lt in
                cc)
          ];
    }

-- one role of an equivalence more
pub equivalence_more : (old rows : List (List ℕ)) (all : List ℕ) (roles : List ℕ) (i : ℕ) (row : List ℕ)
    → i < length roles → get_or roles i 0 < length rows
    → ((s : ℕ) → has row s ≡ (has (get_or rows (get_or roles i 0) []) s || has all s))
    → ((r s : ℕ)
    → (linked rows r s || (is_among (drop i roles) r && has all s))
    ≡ (linked old r s || (is_among roles r && has all s)))
    → (r s : ℕ)
    → (linked (set rows (get_or roles i 0) row) r s || (is_among (drop (i + 1) roles) r && has all s))
    ≡ (linked old r s || (is_among roles r && has all s))
equivalence_more old rows all roles i row within lt h before r s =
    let role = get_or roles i 0 in
    let rest = drop (suc i) roles in
    let e : drop i roles ≡ role ∷ rest = drop-cons roles i 0 within in
    let now : linked (set rows role row) r s ≡ (linked rows r s || (eqb role r && has all s)) =
    linked-set_more rows role row (has all) lt h r s in
    let earlier : (linked rows r s || ((eqb role r || is_among rest r) && has all s))
    ≡ (linked old r s || (is_among roles r && has all s)) =
    subst (λ (xs : List ℕ). (linked rows r s || (is_among xs r && has all s))
    ≡ (linked old r s || (is_among roles r && has all s)))
    e (before r s) in
    let step = or_and_gathered (linked rows r s) (eqb role r) (is_among rest r) (has all s) in
    rw add-one cc

-- the row of one role more
pub joined_more : (rows : List (List ℕ)) (roles joined new : List ℕ) (role : ℕ) (passes : Bool)
    → passes ≡ has roles role
    → ((s : ℕ) → has new s ≡ (has joined s || (passes && has (get_or rows role []) s)))
    → ((s : ℕ) → has joined s ≡ any_below role (λ t. has roles t && linked rows t s))
    → (s : ℕ) → has new s ≡ any_below (role + 1) (λ t. has roles t && linked rows t s)
joined_more rows roles joined new role passes test more before s =
    let now = more s in
    let earlier = before s in
    let row : linked rows role s ≡ has (get_or rows role []) s = linked_row rows role s (get_or rows role []) refl in
    let last : any_below (suc role) (λ t. has roles t && linked rows t s)
    ≡ (any_below role (λ t. has roles t && linked rows t s) || (has roles role && linked rows role s)) = refl in
    rw add-one cc

-- the paths of rows that hold the single steps
pub closed_paths : (axioms : List RoleAxiom) (first stepped closed : List (List ℕ)) (count : ℕ) → length stepped ≡ count
    → ((r s : ℕ) → r < count → linked first r s ≡ eqb r s)
    → ((r s : ℕ) → linked stepped r s ≡ (linked first r s || leads axioms r s))
    → ((r s : ℕ) → linked closed r s ≡ has_path (linked stepped) (length stepped) r s)
    → (r s : ℕ) → r < count → linked closed r s ≡ has_path (same_or_leads axioms) count r s
closed_paths axioms first stepped closed count len own steps paths r s lt =
    let same : (x y : ℕ) → x < count → linked stepped x y ≡ same_or_leads axioms x y =
    λ x y within. (let a = own x y within in let b = steps x y in cc) in
    let last : count < suc count = omega arith in
    let a = has_path-same (linked stepped) (same_or_leads axioms) count same count r s last lt in
    let b = paths r s in
    cc

-- the step of an inclusion
pub inclusion_more : (rows : List (List ℕ)) (lower upper : ℕ) (row : List ℕ) → lower < length rows
    → ((s : ℕ) → has row s ≡ (has (get_or rows lower []) s || eqb upper s))
    → (r s : ℕ) → linked (set rows lower row) r s ≡ (linked rows r s || (eqb lower r && eqb upper s))
inclusion_more rows lower upper row lt more r s = linked-set_more rows lower row (eqb upper) lt more r s

-- rows that are written back whole
pub written_rows : (axioms : List RoleAxiom) (before after rest : List (List ℕ)) (n count : ℕ) → length after ≡ n
    → length before ≡ count
    → ((r s : ℕ) → r < length before → linked after r s ≡ has_path (same_or_leads axioms) (length before) r s)
    → (r s : ℕ) → r < count → linked (take n (after ++ rest)) r s ≡ has_path (same_or_leads axioms) count r s
written_rows axioms before after rest n count len count_is paths r s lt =
    let whole : take n (after ++ rest) ≡ after =
    subst (λ (k : ℕ). take k (after ++ rest) ≡ after) len (take-append_seam after rest) in
    let path : linked after r s ≡ has_path (same_or_leads axioms) (length before) r s = paths r s (omega arith) in
    cc
