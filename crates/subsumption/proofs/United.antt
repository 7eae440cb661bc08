-- Rows to which numbers are added one after the other.
use Rattle.std.proofs.Common.{◌≡◌, ◌≢◌, ◌⊎◌, ℕ, ◌+◌, ◌-◌, ◌<◌, ◌≤◌, ◌&&◌, ◌||◌, Bool, true, false, List, [], ◌∷◌}
use Rattle.std.proofs.Common.{◌++◌, ◌^◌, length, length-append, get_or, set, take, drop, refl, sym, ◌∙◌, ap, subst}
use Rattle.std.proofs.Common.{arith, inl, inr, eqb, leb, ltb, eq-eqb}
use Rattle.std.specs.List.{list_any}
use Rattle.std.specs.FinSet as sets
use Rattle.std.specs.Cmp.{nat_cmp_total}
use Rattle.std.proofs.lemmas.Bool.{cases_lt, cases_eq, ne_eqb, le-leb, lt-ltb, or_cases, or_left, or_right, and_parts}
use Rattle.std.proofs.lemmas.Bool.{true≢false, false_from_ne_true}
use Rattle.std.proofs.lemmas.List.{append-nil, drop_all, take_all, length-set, get_or-set_same, get_or-set_other}
use Rattle.std.proofs.lemmas.List.{get_or_default}
use Rattle.std.proofs.lemmas.Grind.{elements}
use Rattle.std.specs.Ordering.{nat_cmp}
use Rattle.std.proofs.Math.Bool.{or-false, or_comm}
use Rattle.lane_sieve.specs.Sets.{NumberSet}
use Rattle.lane_sieve.proofs.Bits.{contains_insert}
use Rattle.lane_sieve.proofs.Ranges.{any-passing}
use Rattle.axiom_sets.specs.Sets.{Limited, IsWithin, member_list}
use Rattle.subsumption.proofs.Firsts.{AreUpTo, all_up_to, next_up_to, others_up_to}
use Rattle.subsumption.specs.Matrices.{no_row, row_in, both_have, Gains, IsSquare, IsCovered, IsMatrix}

-- whether the row x has the number y + 1
abbrev pub row_has : List Limited → ℕ → ℕ → Bool
row_has rows x y = sets.contains (row_in rows x).members (y + 1)

-- the first rows have what a test says, too, and the others are as they were
pub record IsGrown (size place : ℕ) (test : ℕ → ℕ → Bool) (old now : List Limited) : Type 0 where
  pub square : IsSquare size now
  pub done : (x y : ℕ) → x < place → row_has now x y ≡ (row_has old x y || test x y)
  pub later : (x : ℕ) → place ≤ x → row_in now x ≡ row_in old x

-- ---- one row is written

module _ (size place : ℕ) (rows : List Limited) (square : IsSquare size rows) (lt : place < size) (w : Limited)
    (wide : w.limit ≡ size) where
  there : row_in (set rows place w) place ≡ w
  there = get_or-set_same rows place w no_row (omega (arith, square.long))

  elsewhere : (x : ℕ) → x ≢ place → row_in (set rows place w) x ≡ row_in rows x
  elsewhere x ne = get_or-set_other rows place x w no_row ne

  pub still_square : IsSquare size (set rows place w)
  still_square = record {
    small = square.small;
    long = length-set rows place w ∙ square.long;
    wide = λ x lx. elim (cases_eq x place) [
      | inl e ↦ ap (λ (n : ℕ). (row_in (set rows place w) n).limit) e ∙ ap (λ (s : Limited). s.limit) there ∙ wide
      | inr ne ↦ ap (λ (s : Limited). s.limit) (elsewhere x ne) ∙ square.wide x lx
    ];
  }

  pub has_there : (y : ℕ) → row_has (set rows place w) place y ≡ sets.contains w.members (y + 1)
  has_there y = ap (λ (s : Limited). sets.contains s.members (y + 1)) there

  pub has_elsewhere : (x y : ℕ) → x ≢ place → row_has (set rows place w) x y ≡ row_has rows x y
  has_elsewhere x y ne = ap (λ (s : Limited). sets.contains s.members (y + 1)) (elsewhere x ne)

-- ---- a row more is done

module _ (size place : ℕ) (test : ℕ → ℕ → Bool) (old now : List Limited) (grown : IsGrown size place test old now) where
  -- the row at the place stays as it is
  pub passes_over : ((y : ℕ) → test place y ≡ false) → IsGrown size (place + 1) test old now
  passes_over none = record {
    square = grown.square;
    done = λ x y lx. elim (cases_lt x place) [
      | inl lt ↦ grown.done x y lt
      | inr ge ↦ let e : x ≡ place = omega (arith, lx, ge) in
          ap (λ (s : Limited). sets.contains s.members (y + 1)) (grown.later x ge)
          ∙ sym (or-false (row_has old x y))
          ∙ ap (λ (b : Bool). row_has old x y || b) (sym (ap (λ (n : ℕ). test n y) e ∙ none y))
    ];
    later = λ x ge. grown.later x (omega (arith, ge));
  }

  -- or numbers are put in
  pub takes_in : (added : NumberSet) (w d : Limited) → place < size → w.limit ≡ (get_or now place d).limit
      → w.members ≡ sets.union (get_or now place d).members added
      → ((y : ℕ) → test place y ≡ sets.contains added (y + 1)) → IsGrown size (place + 1) test old (set now place w)
  takes_in added w d lt wide members same =
      let row : get_or now place d ≡ row_in now place =
      get_or_default now place d no_row (omega (arith, grown.square.long, lt)) in
      let fits : w.limit ≡ size = wide ∙ ap (λ (s : Limited). s.limit) row ∙ grown.square.wide place lt in
      record {
        square = still_square size place now grown.square lt w fits;
        done = λ x y lx. elim (cases_eq x place) [
          | inl e ↦ subst (λ (n : ℕ). row_has (set now place w) n y ≡ (row_has old n y || test n y)) (sym e)
              (has_there size place now grown.square lt w fits y
              ∙ ap (λ (s : NumberSet). sets.contains s (y + 1))
              (members ∙ ap (λ (s : Limited). sets.union s.members added) row)
              ∙ sets.contains-union nat_cmp_total (row_in now place).members added (y + 1)
              ∙ ap (λ (s : Limited). sets.contains s.members (y + 1) || sets.contains added (y + 1))
              (grown.later place (omega arith))
              ∙ ap (λ (b : Bool). row_has old place y || b) (sym (same y)))
          | inr ne ↦ has_elsewhere size place now grown.square lt w fits x y ne ∙ grown.done x y (omega (arith, lx, ne))
        ];
        later =
            λ x ge.
            let ne : x ≢ place = λ e. omega (arith, e, ge) in
            elsewhere size place now grown.square lt w fits x ne ∙ grown.later x (omega (arith, ge));
      }

  -- what is asked of the row at the place
  pub asked_row : place < size → (d : Limited) (column : ℕ) (b : Bool)
      → b ≡ sets.contains (get_or now place d).members (column + 1) → row_has old place column ≡ b
  asked_row lt d column b e =
      ap (λ (s : Limited). sets.contains s.members (column + 1))
      (sym (grown.later place (omega arith)) ∙ get_or_default now place no_row d (omega (arith, grown.square.long, lt)))
      ∙ sym e

-- what a vector of n rows holds once others are written over all of them
pub rows_back : (n : ℕ) (ws xs : List Limited) → length ws ≡ length xs → n ≡ length xs
    → take n (ws ++ drop (length ws) xs) ≡ ws
rows_back n ws xs e e' =
    ap (λ (ys : List Limited). take n (ws ++ ys)) (drop_all (length ws) xs (omega arith)) ∙ ap (take n) (append-nil ws)
    ∙ take_all n ws (omega arith)

-- ---- no numbers

-- so many rows without any number
pub record AreBlank (size count : ℕ) (rows : List Limited) : Type 0 where
  pub long : length rows ≡ count
  pub each : (x : ℕ) → x < count → (row_in rows x).limit ≡ size
  pub blank : (x : ℕ) → x < count → (row_in rows x).members ≡ sets.empty

pub one_blank : (size count : ℕ) (rows : List Limited) (s : Limited) → AreBlank size count rows → s.limit ≡ size
    → s.members ≡ sets.empty → AreBlank size (count + 1) (rows ++ s ∷ [])
one_blank size count rows s all limit members =
    let last : (x : ℕ) → x ≡ count → row_in (rows ++ s ∷ []) x ≡ s = λ x e. get_or_last rows s x (e ∙ sym all.long) in
    let before : (x : ℕ) → x < count → row_in (rows ++ s ∷ []) x ≡ row_in rows x =
    λ x lt. get_or_before rows s x (omega (arith, lt, all.long)) in
    record {
      long = omega (arith, length-append rows (s ∷ []), all.long);
      each =
          λ x lt. elim (cases_lt x count) [
            | inl l ↦ ap (λ (r : Limited). r.limit) (before x l) ∙ all.each x l
            | inr g ↦ ap (λ (r : Limited). r.limit) (last x (omega arith)) ∙ limit
          ];
      blank =
          λ x lt. elim (cases_lt x count) [
            | inl l ↦ ap (λ (r : Limited). r.members) (before x l) ∙ all.blank x l
            | inr g ↦ ap (λ (r : Limited). r.members) (last x (omega arith)) ∙ members
          ];
    }
  where
    get_or_last : (xs : List Limited) (z : Limited) (x : ℕ) → x ≡ length xs → row_in (xs ++ z ∷ []) x ≡ z
    get_or_last xs z x e = grind (arith, elements)

    get_or_before : (xs : List Limited) (z : Limited) (x : ℕ) → x < length xs → row_in (xs ++ z ∷ []) x ≡ row_in xs x
    get_or_before xs z x lt = grind (arith, elements)

pub blank_square : (size : ℕ) (rows : List Limited) → size < 2 ^ 32 → AreBlank size size rows → IsSquare size rows
blank_square size rows small all = record { small = small; long = all.long; wide = all.each }

pub blank_matrix : (size : ℕ) (rows : List Limited) → AreBlank size size rows
    → IsMatrix size (λ x y. false) (record { size = size; rows = rows })
blank_matrix size rows all = record {
  size_is = refl;
  pairs =
      λ x y lx ly. ap (λ (s : NumberSet). sets.contains s (y + 1)) (all.blank x lx)
      ∙ sets.contains-empty nat_cmp (y + 1);
}

-- ---- one number

eqb_more : (a b : ℕ) → eqb (a + 1) (b + 1) ≡ eqb a b
eqb_more a b = elim (cases_eq a b) [
  | inl e ↦ eq-eqb (a + 1) (b + 1) (omega (arith, e)) ∙ sym (eq-eqb a b e)
  | inr ne ↦ ne_eqb (a + 1) (b + 1) (λ e. ne (omega (arith, e))) ∙ sym (ne_eqb a b ne)
]

pub one_put : (size x y : ℕ) (rows : List Limited) (w d : Limited) → IsSquare size rows → x < size
    → w.limit ≡ (get_or rows x d).limit → w.members ≡ sets.insert (get_or rows x d).members (y + 1)
    → IsMatrix size (λ a b. row_has rows a b || (eqb a x && eqb b y)) (record { size = size; rows = set rows x w })
one_put size x y rows w d square lx wide members =
    let row : get_or rows x d ≡ row_in rows x = get_or_default rows x d no_row (omega (arith, square.long, lx)) in
    let fits : w.limit ≡ size = wide ∙ ap (λ (s : Limited). s.limit) row ∙ square.wide x lx in
    record {
      size_is = refl;
      pairs = λ a b la lb. elim (cases_eq a x) [
        | inl e ↦ subst (λ (n : ℕ). row_has (set rows x w) n b ≡ (row_has rows n b || (eqb n x && eqb b y))) (sym e)
            (has_there size x rows square lx w fits b
            ∙ ap (λ (s : NumberSet). sets.contains s (b + 1))
            (members ∙ ap (λ (s : Limited). sets.insert s.members (y + 1)) row)
            ∙ contains_insert (row_in rows x).members (y + 1) (b + 1)
            ∙ ap (λ (t : Bool). t || row_has rows x b) (eqb_more b y)
            ∙ or_comm (eqb b y) (row_has rows x b)
            ∙ ap (λ (t : Bool). row_has rows x b || (t && eqb b y)) (sym (eq-eqb x x refl)))
        | inr ne ↦
            has_elsewhere size x rows square lx w fits a b ne ∙ sym (or-false (row_has rows a b))
            ∙ ap (λ (t : Bool). row_has rows a b || (t && eqb b y)) (sym (ne_eqb a x ne))
      ];
    }

pub put_square : (size x y : ℕ) (rows : List Limited) (w d : Limited) → IsSquare size rows → x < size
    → w.limit ≡ (get_or rows x d).limit → IsSquare size (set rows x w)
put_square size x y rows w d square lx wide =
    let row : get_or rows x d ≡ row_in rows x = get_or_default rows x d no_row (omega (arith, square.long, lx)) in
    still_square size x rows square lx w (wide ∙ ap (λ (s : Limited). s.limit) row ∙ square.wide x lx)

-- ---- the set of columns

in_union : (s t : NumberSet) (k : ℕ) → (sets.contains s k ≡ true) ⊎ (sets.contains t k ≡ true)
    → sets.contains (sets.union s t) k ≡ true
in_union s t k (inl h) = sets.contains-union nat_cmp_total s t k ∙ or_left (sets.contains s k) (sets.contains t k) h
in_union s t k (inr h) = sets.contains-union nat_cmp_total s t k ∙ or_right (sets.contains s k) (sets.contains t k) h

-- numbers are put into rows that are put into the columns, too
pub covers_more : (size : ℕ) (test : ℕ → ℕ → Bool) (old new : List Limited) (columns columns' added : Limited)
    → IsCovered size old columns → IsSquare size new → Gains size test old new
    → ((x y : ℕ) → test x y ≡ true → sets.contains added.members (y + 1) ≡ true) → columns'.limit ≡ columns.limit
    → columns'.members ≡ sets.union columns.members added.members → IsCovered size new columns'
covers_more size test old new columns columns' added h square gains inside limit members = record {
  square = square;
  limit = limit ∙ h.limit;
  covers = λ x y lx ly is.
      ap (λ (s : NumberSet). sets.contains s (y + 1)) members
      ∙ in_union columns.members added.members (y + 1)
      (elim (or_cases (row_has old x y) (test x y) (sym (gains x y lx) ∙ is))
      [ inl was ↦ inl (h.covers x y lx ly was) | inr now ↦ inr (inside x y now) ]);
}

-- the same where the rows of a vector are written over
pub covers_united : (size n : ℕ) (test : ℕ → ℕ → Bool) (old new xs : List Limited) (columns columns' added : Limited)
    → IsCovered size xs columns → old ≡ xs → n ≡ length xs → IsSquare size new → Gains size test old new
    → ((x y : ℕ) → test x y ≡ true → sets.contains added.members (y + 1) ≡ true) → columns'.limit ≡ columns.limit
    → columns'.members ≡ sets.union columns.members added.members
    → IsCovered size (take n (new ++ drop (length new) xs)) columns'
covers_united size n test old new xs columns columns' added h same long square gains inside limit members =
    subst (λ (rows : List Limited). IsCovered size rows columns')
    (sym (rows_back n new xs (square.long ∙ sym h.square.long) long))
    (covers_more size test xs new columns columns' added h square
    (subst (λ (rows : List Limited). Gains size test rows new) same gains) inside limit members)

pub covers_one : (size x y : ℕ) (rows : List Limited) (columns columns' w d : Limited) → IsCovered size rows columns
    → x < size → w.limit ≡ (get_or rows x d).limit → w.members ≡ sets.insert (get_or rows x d).members (y + 1)
    → columns'.limit ≡ columns.limit → columns'.members ≡ sets.insert columns.members (y + 1)
    → IsCovered size (set rows x w) columns'
covers_one size x y rows columns columns' w d h lx wide members limit columns_are = record {
  square = put_square size x y rows w d h.square lx wide;
  limit = limit ∙ h.limit;
  covers = λ a b la lb is.
      ap (λ (s : NumberSet). sets.contains s (b + 1)) columns_are
      ∙ contains_insert columns.members (y + 1) (b + 1)
      ∙ elim (or_cases (row_has rows a b) (eqb a x && eqb b y)
      (sym ((one_put size x y rows w d h.square lx wide members).pairs a b la lb) ∙ is)) [
        | inl was ↦ or_right (eqb (b + 1) (y + 1)) (sets.contains columns.members (b + 1)) (h.covers a b la lb was)
        | inr now ↦
            or_left (eqb (b + 1) (y + 1)) (sets.contains columns.members (b + 1))
            (eqb_more b y ∙ (and_parts (eqb a x) (eqb b y) now).1)
      ];
}

pub covers_none : (size : ℕ) (rows : List Limited) (columns : Limited) → size < 2 ^ 32 → AreBlank size size rows
    → columns.limit ≡ size → IsCovered size rows columns
covers_none size rows columns small all limit = record {
  square = blank_square size rows small all;
  limit = limit;
  covers = λ x y lx ly is. absurd (true≢false (sym is ∙ (blank_matrix size rows all).pairs x y lx ly));
}

-- where a number is no column, nothing is added for it
pub none_added : (size column : ℕ) (rows : List Limited) (columns added : Limited) → IsCovered size rows columns
    → column < size → sets.contains columns.members (column + 1) ≡ false
    → IsMatrix size (λ x y. row_has rows x y || (row_has rows x column && sets.contains added.members (y + 1)))
    (record { size = size; rows = rows })
none_added size column rows columns added h lc none = record {
  size_is = refl;
  pairs = λ x y lx ly.
      let lacks : row_has rows x column ≡ false =
      false_from_ne_true (row_has rows x column) (λ is. true≢false (sym (h.covers x column lx lc is) ∙ none)) in
      sym (ap (λ (b : Bool). row_has rows x y || (b && sets.contains added.members (y + 1))) lacks
      ∙ or-false (row_has rows x y));
}

-- ---- the rows of the numbers of a set, one after the other

-- whether the list has the number of x
abbrev pub among : List ℕ → ℕ → Bool
among rest x = list_any (λ n. eqb n (x + 1)) rest

-- with what the rest of the numbers add, the rows have what all add
pub record IsUniting (size : ℕ) (chosen added : Limited) (old now : List Limited) (rest : List ℕ) : Type 0 where
  pub square : IsSquare size now
  pub listed : AreUpTo size rest
  pub whole : (x y : ℕ) → x < size
      → (row_has now x y || (among rest x && sets.contains added.members (y + 1))) ≡
      (row_has old x y || (sets.contains chosen.members (x + 1) && sets.contains added.members (y + 1)))

and_true : (a : Bool) → (a && true) ≡ a
and_true true = refl
and_true false = refl

among_all : (s : Limited) (x : ℕ) → x < s.limit → among (member_list s) x ≡ sets.contains s.members (x + 1)
among_all s x lt =
    let p = sets.contains s.members in
    let within : (leb 0 (x + 1) && ltb (x + 1) (0 + (s.limit + 1))) ≡ true =
    rw (le-leb 0 (x + 1) (omega arith), lt-ltb (x + 1) (0 + (s.limit + 1)) (omega (arith, lt))) refl in
    any-passing p 0 (s.limit + 1) (x + 1) ∙ ap (λ (b : Bool). p (x + 1) && b) within ∙ and_true (p (x + 1))

pub begins_uniting : (size : ℕ) (chosen added : Limited) (rows : List Limited) (rest : List ℕ) → IsSquare size rows
    → size ≡ chosen.limit → IsWithin chosen.limit chosen.members → rest ≡ member_list chosen
    → IsUniting size chosen added rows rows rest
begins_uniting size chosen added rows rest square e within is = record {
  square = square;
  listed = all_up_to size chosen rest within (sym e) is;
  whole =
      λ x y lx. ap (λ (b : Bool). row_has rows x y || (b && sets.contains added.members (y + 1)))
      (ap (λ (ns : List ℕ). among ns x) is ∙ among_all chosen x (omega (arith, lx, e)));
}

gained : (r a b : Bool) → ((r || a) || (b && a)) ≡ (r || ((true || b) && a))
gained true a b = refl
gained false true b = refl
gained false false true = refl
gained false false false = refl

module _ (size : ℕ) (chosen added : Limited) (old now : List Limited) (rest : List ℕ)
    (h : IsUniting size chosen added old now rest) (n : ℕ) (rest' : List ℕ) (is : rest ≡ n ∷ rest') where
  pub next_within : (1 ≤ n) × (n ≤ size)
  next_within = next_up_to size rest h.listed n rest' is

  pub next_limit : (d : Limited) → (get_or now (n - 1) d).limit ≡ size
  next_limit d =
      let lt : n - 1 < size = omega (arith, next_within.0, next_within.1) in
      ap (λ (s : Limited). s.limit) (get_or_default now (n - 1) d no_row (omega (arith, h.square.long, lt)))
      ∙ h.square.wide (n - 1) lt

  pub unites_next : (place : ℕ) (w d : Limited) → place ≡ n - 1 → w.limit ≡ (get_or now place d).limit
      → w.members ≡ sets.union (get_or now place d).members added.members
      → IsUniting size chosen added old (set now place w) rest'
  unites_next place w d e wide members =
      let low = next_within.0 in
      let lt : place < size = omega (arith, e, next_within.1, low) in
      let row : get_or now place d ≡ row_in now place =
      get_or_default now place d no_row (omega (arith, h.square.long, lt)) in
      let fits : w.limit ≡ size = wide ∙ ap (λ (s : Limited). s.limit) row ∙ h.square.wide place lt in
      let a : ℕ → Bool = λ y. sets.contains added.members (y + 1) in
      record {
        square = still_square size place now h.square lt w fits;
        listed = others_up_to size rest h.listed n rest' is;
        whole = λ x y lx. elim (cases_eq x place) [
          | inl same ↦
              let here : row_has (set now place w) x y ≡ (row_has now x y || a y) =
              ap (λ (k : ℕ). row_has (set now place w) k y) same ∙ has_there size place now h.square lt w fits y
              ∙ ap (λ (s : NumberSet). sets.contains s (y + 1))
              (members ∙ ap (λ (s : Limited). sets.union s.members added.members) row)
              ∙ sets.contains-union nat_cmp_total (row_in now place).members added.members (y + 1)
              ∙ ap (λ (k : ℕ). row_has now k y || a y) (sym same) in
              let is_next : eqb n (x + 1) ≡ true = eq-eqb n (x + 1) (omega (arith, e, same, low)) in
              ap (λ (b : Bool). b || (among rest' x && a y)) here
              ∙ gained (row_has now x y) (a y) (among rest' x)
              ∙ ap (λ (b : Bool). row_has now x y || ((b || among rest' x) && a y)) (sym is_next)
              ∙ ap (λ (ns : List ℕ). row_has now x y || (among ns x && a y)) (sym is)
              ∙ h.whole x y lx
          | inr ne ↦
              let other : eqb n (x + 1) ≡ false = ne_eqb n (x + 1) (λ f. ne (omega (arith, e, f))) in
              ap (λ (b : Bool). b || (among rest' x && a y)) (has_elsewhere size place now h.square lt w fits x y ne)
              ∙ ap (λ (b : Bool). row_has now x y || ((b || among rest' x) && a y)) (sym other)
              ∙ ap (λ (ns : List ℕ). row_has now x y || (among ns x && a y)) (sym is)
              ∙ h.whole x y lx
        ];
      }

pub all_united : (size : ℕ) (chosen added : Limited) (old now : List Limited) (rest : List ℕ)
    → IsUniting size chosen added old now rest → rest ≡ [] → Gains size (both_have chosen added) old now
all_united size chosen added old now rest h is x y lx =
    sym (or-false (row_has now x y))
    ∙ ap (λ (ns : List ℕ). row_has now x y || (among ns x && sets.contains added.members (y + 1))) (sym is)
    ∙ h.whole x y lx
