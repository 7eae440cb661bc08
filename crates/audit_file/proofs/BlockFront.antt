-- The first malformed line of a block is that of the lines in which it stands.
use Rattle.std.proofs.Common.{◌≡◌, ℕ, zero, suc, ◌+◌, ◌-◌, ◌<◌, ◌≤◌, Bool, true, false, ◌||◌, List, [], ◌∷◌, ◌++◌}
use Rattle.std.proofs.Common.{length, take, drop, Ok, Err, Option, Some, None, refl, ap, sym, ◌∙◌, subst, arith}
use Rattle.std.proofs.Common.{append_assoc, inl, inr}
use Rattle.std.specs.Prelude.{if◌then◌else◌}
use Rattle.std.specs.List.{list_any}
use Rattle.std.proofs.lemmas.Bool.{cases_lt, cases_Bool, or_left, or_right, false≢true}
use Rattle.std.proofs.lemmas.List.{take-take, take-append-drop, take-append-le, take_all, length-take, append-nil}
use Rattle.std.proofs.lemmas.List.Folds.{list_any-append}
use Rattle.std.proofs.Math.Seq.{take-append_seam, drop-append_seam}
use Rattle.certificate_lines.specs.Body.{is_end_line, after_line, read_body}
use Rattle.certificate_lines.specs.Malformed.{BeginsText, StopsAfter, TellsMalformed}
use Rattle.certificate_lines.proofs.Body.{body_line}
use Rattle.refutation_tree.proofs.Writable.{and_then_some}
use Rattle.audit_file.specs.AuditText.{Ahead, Reads, block_len, block, behind_block, line_of_block, block_read}
use Rattle.audit_file.proofs.Times.{block_ok, block_none}
use Rattle.audit_file.proofs.Cut.{EndsThere, block_more}
use Rattle.audit_file.proofs.Fronts.{at_lines, Stops, Takes, IsFront}

-- ---- lines with a line `end`

abbrev pub has_end : List (List ℕ) → Bool
has_end ls = list_any is_end_line ls

-- what is read has one
abbrev pub HasEnd : {K : Type 0} → (List (List ℕ) → Option K) → Type 0
HasEnd {K = K} reading = (ls : List (List ℕ)) (k : K) → reading ls ≡ Some k → has_end ls ≡ true

module _ {B K : Type 0} (read : B → List ℕ → Option B) (whole : B → K) where
  pub body_has : (b : B) → HasEnd (read_body read whole b)
  body_has b [] k h = let clash : ◌≡◌ {A = Option K} None (Some k) = h in absurd (cc clash)
  body_has b (l ∷ ls) k h = by (λ next. body_has next ls k) (is_end_line l) refl
    where
      by : ((next : B) → read_body read whole next ls ≡ Some k → has_end ls ≡ true) → (e : Bool) → is_end_line l ≡ e
          → has_end (l ∷ ls) ≡ true
      by later true ends = or_left (is_end_line l) (has_end ls) ends
      by later false goes = by_line (read b l) refl
        where
          by_line : (r : Option B) → read b l ≡ r → has_end (l ∷ ls) ≡ true
          by_line None bad =
              let clash : ◌≡◌ {A = Option K} None (Some k) = sym (body_line read whole b l ls None goes bad) ∙ h in
              absurd (cc clash)
          by_line (Some next) good =
              or_right (is_end_line l) (has_end ls)
              (later next (sym (body_line read whole b l ls (Some next) goes good) ∙ h))

pub line_has : {A K : Type 0} (first : List ℕ → Option A) (rest : A → List (List ℕ) → Option K)
    → ((a : A) → HasEnd (rest a)) → HasEnd (after_line first rest)
line_has {K = K} first rest has [] k h = let clash : ◌≡◌ {A = Option K} None (Some k) = h in absurd (cc clash)
line_has first rest has (l ∷ ls) k h =
    let a = and_then_some (λ b. rest b ls) (first l) k h in or_right (is_end_line l) (has_end ls) (has a.0 ls k a.2)

one_end : (l : List ℕ) (ls : List (List ℕ)) → is_end_line l ≡ true → block_len (l ∷ ls) ≡ 1
one_end l ls is = ap (λ b. if b then 1 else suc (block_len ls)) is

block_within : (ls : List (List ℕ)) → block_len ls ≤ length ls
block_within [] = omega arith
block_within (l ∷ ls) = elim (cases_Bool (is_end_line l)) [
  | inl ends ↦ omega (arith, one_end l ls ends)
  | inr goes ↦ omega (arith, block_more l ls goes, block_within ls)
]

-- without one all lines are a block
no_end_long : (ls : List (List ℕ)) → has_end ls ≡ false → block_len ls ≡ length ls
no_end_long [] none = refl
no_end_long (l ∷ ls) none = elim (cases_Bool (is_end_line l)) [
  | inl ends ↦ absurd (false≢true (sym none ∙ or_left (is_end_line l) (has_end ls) ends))
  | inr goes ↦ block_more l ls goes ∙ ap suc (no_end_long ls (sym (ap (λ b. b || has_end ls) goes) ∙ none))
]

no_end_block : (ls : List (List ℕ)) → has_end ls ≡ false → block ls ≡ ls
no_end_block ls none = take_all (block_len ls) ls (omega (arith, no_end_long ls none))

-- with one a block does not see what follows
end_long : (ls more : List (List ℕ)) → has_end ls ≡ true → block_len (ls ++ more) ≡ block_len ls
end_long [] more some = absurd (false≢true some)
end_long (l ∷ ls) more some = elim (cases_Bool (is_end_line l)) [
  | inl ends ↦ one_end l (ls ++ more) ends ∙ sym (one_end l ls ends)
  | inr goes ↦
      block_more l (ls ++ more) goes ∙ ap suc (end_long ls more (sym (ap (λ b. b || has_end ls) goes) ∙ some))
      ∙ sym (block_more l ls goes)
]

-- before the end of a block there is none
end_behind : (ls : List (List ℕ)) (j : ℕ) → j < block_len ls → has_end (take j ls) ≡ false
end_behind ls zero lt = refl
end_behind [] (suc j) lt = refl
end_behind (l ∷ ls) (suc j) lt = elim (cases_Bool (is_end_line l)) [
  | inl ends ↦ absurd (omega (arith, lt, one_end l ls ends))
  | inr goes ↦ ap (λ b. b || has_end (take j ls)) goes ∙ end_behind ls j (omega (arith, lt, block_more l ls goes))
]

-- a block that is shorter than the lines ends with one
end_within : (ls : List (List ℕ)) → block_len ls < length ls → has_end (block ls) ≡ true
end_within ls lt = elim (cases_Bool (has_end (block ls))) [
  | inl some ↦ some
  | inr none ↦ elim (cases_Bool (has_end ls)) [
    | inr without ↦ absurd (omega (arith, lt, no_end_long ls without))
    | inl with_one ↦ absurd (false≢true (sym none ∙ at_end ls with_one))
  ]
]
  where
    at_end : (xs : List (List ℕ)) → has_end xs ≡ true → has_end (block xs) ≡ true
    at_end [] some = some
    at_end (l ∷ xs) some = elim (cases_Bool (is_end_line l)) [
      | inl ends ↦ ap (λ n. has_end (take n (l ∷ xs))) (one_end l xs ends) ∙ or_left (is_end_line l) false ends
      | inr goes ↦
          ap (λ n. has_end (take n (l ∷ xs))) (block_more l xs goes)
          ∙ or_right (is_end_line l) (has_end (block xs)) (at_end xs (sym (ap (λ b. b || has_end xs) goes) ∙ some))
    ]

-- lines without one are fewer than the block that they begin
longer_than : (xs : List (List ℕ)) (l : List ℕ) (rest : List (List ℕ)) → has_end xs ≡ false
    → length xs < block_len (xs ++ l ∷ rest)
longer_than [] l rest none = elim (cases_Bool (is_end_line l)) [
  | inl ends ↦ omega (arith, one_end l rest ends)
  | inr goes ↦ omega (arith, block_more l rest goes)
]
longer_than (x ∷ xs) l rest none = elim (cases_Bool (is_end_line x)) [
  | inl ends ↦ absurd (false≢true (sym none ∙ or_left (is_end_line x) (has_end xs) ends))
  | inr goes ↦
      let more = longer_than xs l rest (sym (ap (λ b. b || has_end xs) goes) ∙ none) in
      omega (arith, block_more x (xs ++ l ∷ rest) goes, more)
]

no_end_front : (xs : List (List ℕ)) (j : ℕ) → has_end xs ≡ false → has_end (take j xs) ≡ false
no_end_front xs j none = elim (cases_Bool (has_end (take j xs))) [
  | inr out ↦ out
  | inl some ↦
      absurd (false≢true
      (sym none ∙ ap has_end (sym (take-append-drop j xs)) ∙ list_any-append is_end_line (take j xs) (drop j xs)
      ∙ or_left (has_end (take j xs)) (has_end (drop j xs)) some))
]

-- one line more
take_one : (k : ℕ) (ls : List (List ℕ)) → k < length ls → (l : List ℕ) × (take (suc k) ls ≡ take k ls ++ l ∷ [])
take_one k [] lt = absurd (omega (arith, lt))
take_one zero (l ∷ ls) lt = (l, refl)
take_one (suc k) (l ∷ ls) lt =
    let r = take_one k ls (omega (arith, lt)) in (r.0, ap (λ (xs : List (List ℕ)). l ∷ xs) r.1)

-- ---- texts that begin so

module _ {K : Type 0} (reading : List (List ℕ) → Option K) where
  begins_front : (xs : List (List ℕ)) (i : ℕ) → BeginsText reading xs → BeginsText reading (take i xs)
  begins_front xs i some = (
    drop i xs ++ some.0,
    some.1,
    ap reading (sym (append_assoc (take i xs) (drop i xs) some.0) ∙ ap (λ ys. ys ++ some.0) (take-append-drop i xs))
        ∙ some.2,
  )

  begins_itself : (xs : List (List ℕ)) (k : K) → reading xs ≡ Some k → BeginsText reading xs
  begins_itself xs k is = ([], k, ap reading (append-nil xs) ∙ is)

-- ---- the reading of a block

module _ {K : Type 0} (reading : List (List ℕ) → Option K) (malformed : List (List ℕ) → Option ℕ)
    (tells : TellsMalformed 2 reading malformed) (ends : EndsThere reading) (has : HasEnd reading) where
  -- where a block is no text, it is told where it stops
  told_at : (zs : List (List ℕ)) → reading zs ≡ None → (i : ℕ) × (malformed zs ≡ Some (2 + i)) × StopsAfter reading zs i
  told_at zs none = by (malformed zs) refl
    where
      by : (r : Option ℕ) → malformed zs ≡ r → (i : ℕ) × (malformed zs ≡ Some (2 + i)) × StopsAfter reading zs i
      by None is =
          let t = tells.unless zs is in
          let clash : ◌≡◌ {A = Option K} None (Some t.0) = sym none ∙ t.1 in absurd (cc clash)
      by (Some p) is = let f = tells.is_first zs p is in (f.0, is ∙ ap Some f.1, f.2)

  stops_with : (n i : ℕ) (ls zs : List (List ℕ)) → block ls ≡ zs → reading zs ≡ None → malformed zs ≡ Some (2 + i)
      → block_read reading malformed (at_lines n ls) ≡ Err (n + i)
  stops_with n i ls zs is none told =
      let e : n + (2 + i) - 2 ≡ n + i = omega arith in
      block_none reading malformed (at_lines n ls) (ap reading is ∙ none)
      ∙ ap (λ r. Err (line_of_block n r)) (ap malformed is ∙ told) ∙ ap Err e

  -- lines that begin a text and have no end lack just the next line
  lacks_next : (n : ℕ) (xs : List (List ℕ)) → has_end xs ≡ false → BeginsText reading xs
      → block_read reading malformed (at_lines n xs) ≡ Err (n + length xs)
  lacks_next n xs none begins = by (reading xs) refl
    where
      by : (r : Option K) → reading xs ≡ r → block_read reading malformed (at_lines n xs) ≡ Err (n + length xs)
      by (Some k) is = absurd (false≢true (sym none ∙ has xs k is))
      by None is =
          let t = told_at xs is in
          elim (cases_lt t.0 (length xs)) [
            | inl less ↦ absurd (t.2.stops less (begins_front reading xs (suc t.0) begins))
            | inr more ↦
                let same : t.0 ≡ length xs = omega (arith, more, t.2.within) in
                stops_with n t.0 xs xs (no_end_block xs none) is t.1 ∙ ap (λ i. Err (n + i)) same
          ]

  module _ (n : ℕ) (ls : List (List ℕ)) where
    front_of : (j : ℕ) → j ≤ block_len ls → take j (block ls) ≡ take j ls
    front_of j le = take-take j (block_len ls) ls le

    short : (j : ℕ) → j ≤ block_len ls → length (take j ls) ≡ j
    short j le = let l = length-take j ls in omega (arith, l, le, block_within ls)

    long : length (block ls) ≡ block_len ls
    long = short (block_len ls) (omega arith)

    module _ (none : reading (block ls) ≡ None) (k : ℕ) (stop : StopsAfter reading (block ls) k) where
      inside : k ≤ block_len ls
      inside = omega (arith, stop.within, long)

      begins_k : BeginsText reading (take k ls)
      begins_k = subst (BeginsText reading) (front_of k inside) stop.begins

      -- what stops a block comes before its end
      not_ended : has_end (take k ls) ≡ false
      not_ended = elim (cases_Bool (has_end (take k ls))) [
        | inr out ↦ out
        | inl some ↦ elim (cases_lt k (block_len ls)) [
          | inl less ↦ absurd (false≢true (sym (end_behind ls k less) ∙ some))
          | inr more ↦
              let at : k ≡ block_len ls = omega (arith, more, inside) in
              let all : take k ls ≡ block ls = ap (λ i. take i ls) at in
              let ended : has_end (block ls) ≡ true = ap has_end (sym all) ∙ some in
              let whole : reading (block ls ++ begins_k.0) ≡ Some begins_k.1 =
              ap (λ xs. reading (xs ++ begins_k.0)) (sym all) ∙ begins_k.2 in
              let cut : block (block ls ++ begins_k.0) ≡ block ls =
              ap (λ i. take i (block ls ++ begins_k.0)) (end_long (block ls) begins_k.0 ended)
              ∙ take-append-le (block_len (block ls)) (block ls) begins_k.0 (block_within (block ls))
              ∙ take-take (block_len (block ls)) (block_len ls) ls (omega (arith, block_within (block ls), long))
              ∙ twice ended in
              let clash : ◌≡◌ {A = Option K} None (Some begins_k.1) =
              sym none ∙ ap reading (sym cut) ∙ (ends (block ls ++ begins_k.0) begins_k.1 whole).0 in
              absurd (cc clash)
        ]
      ]
        where
          twice : has_end (block ls) ≡ true → take (block_len (block ls)) ls ≡ block ls
          twice ended =
              ap (λ i. take i ls)
              (sym (end_long (block ls) (drop (block_len ls) ls) ended)
              ∙ ap block_len (take-append-drop (block_len ls) ls))

      before : (j : ℕ) → j ≤ k → block_read reading malformed (at_lines n (take j ls)) ≡ Err (n + j)
      before j le =
          let front : take j (take k ls) ≡ take j ls = take-take j k ls le in
          lacks_next n (take j ls) (ap has_end (sym front) ∙ no_end_front (take k ls) j not_ended)
          (subst (BeginsText reading) front (begins_front reading (take k ls) j begins_k))
          ∙ ap (λ i. Err (n + i)) (short j (omega (arith, le, inside)))

      within_block : k < length ls → k < block_len ls
      within_block lt = elim (cases_lt k (block_len ls)) [
        | inl less ↦ less
        | inr more ↦
            let same : k ≡ block_len ls = omega (arith, more, inside) in
            absurd
            (false≢true (sym not_ended ∙ ap (λ i. has_end (take i ls)) same ∙ end_within ls (omega (arith, lt, same))))
      ]

      module _ (lt : k < length ls) (more : List (List ℕ)) where
        ys : List (List ℕ)
        ys = take (suc k) ls

        no_text : BeginsText reading (take (suc k) ls) → ⊥
        no_text begins =
            stop.stops (omega (arith, within_block lt, long))
            (subst (BeginsText reading) (sym (front_of (suc k) (omega (arith, within_block lt)))) begins)

        abbrev all : List (List ℕ)
        all = take (suc k) ls ++ more

        ys_long : length (take (suc k) ls) ≡ suc k
        ys_long = short (suc k) (omega (arith, within_block lt))

        -- the block has at least the lines up to that one
        block_has : suc k ≤ block_len all
        block_has =
            let one = take_one k ls lt in
            let e : all ≡ take k ls ++ one.0 ∷ more =
            ap (λ xs. xs ++ more) one.1 ∙ append_assoc (take k ls) (one.0 ∷ []) more in
            let l = longer_than (take k ls) one.0 more not_ended in
            omega (arith, l, ap block_len e, short k inside)

        front_is : take (suc k) (block all) ≡ take (suc k) ls
        front_is =
            take-take (suc k) (block_len all) all block_has
            ∙ take-append-le (suc k) (take (suc k) ls) more (omega (arith, ys_long))
            ∙ take_all (suc k) (take (suc k) ls) (omega (arith, ys_long))

        no_more : (i : ℕ) → k < i → BeginsText reading (take i (block all)) → ⊥
        no_more i less begins =
            no_text (subst (BeginsText reading) (take-take (suc k) i (block all) (omega (arith, less)) ∙ front_is)
            (begins_front reading (take i (block all)) (suc k) begins))

        is_none : reading (block all) ≡ None
        is_none = by (reading (block all)) refl
          where
            by : (r : Option K) → reading (block all) ≡ r → r ≡ None
            by None is = refl
            by (Some q) is =
                absurd (no_text
                (subst (BeginsText reading) front_is
                (begins_front reading (block all) (suc k) (begins_itself reading (block all) q is))))

        all_long : suc k ≤ length (block all)
        all_long = let l = length-take (block_len all) all in omega (arith, l, block_has, block_within all)

        stops_here : block_read reading malformed (at_lines n all) ≡ Err (n + k)
        stops_here =
            let t = told_at (block all) is_none in
            elim (cases_lt t.0 k) [
              | inl less ↦
                  absurd (t.2.stops (omega (arith, less, all_long))
                  (subst (BeginsText reading)
                  (take-take (suc t.0) k ls (omega (arith, less))
                  ∙ sym (take-take (suc t.0) (suc k) ls (omega (arith, less))) ∙ ap (take (suc t.0)) (sym front_is)
                  ∙ take-take (suc t.0) (suc k) (block all) (omega (arith, less)))
                  (begins_front reading (take k ls) (suc t.0) begins_k)))
              | inr more' ↦ elim (cases_lt k t.0) [
                | inl beyond ↦ absurd (no_more t.0 beyond t.2.begins)
                | inr less ↦
                    let same : t.0 ≡ k = omega (arith, more', less) in
                    stops_with n t.0 all (block all) refl is_none t.1 ∙ ap (λ i. Err (n + i)) same
              ]
            ]

  block_bad : (n : ℕ) (ls : List (List ℕ)) (m : ℕ) → block_read reading malformed (at_lines n ls) ≡ Err m
      → (k : ℕ) × (m ≡ n + k) × Stops (block_read reading malformed) n ls k
  block_bad n ls m h = by (reading (block ls)) refl
    where
      by : (r : Option K) → reading (block ls) ≡ r → (k : ℕ) × (m ≡ n + k) × Stops (block_read reading malformed) n ls k
      by (Some q) is =
          let clash : ◌≡◌ {A = Reads K} (Ok (q, behind_block (at_lines n ls))) (Err m) =
          sym (block_ok reading malformed (at_lines n ls) q is) ∙ h in
          absurd (cc clash)
      by None is =
          let t = told_at (block ls) is in
          let same : n + t.0 ≡ m = cc (sym (stops_with n t.0 ls (block ls) refl is t.1) ∙ h) in (
            t.0,
            sym same,
            record {
              within = omega (arith, inside n ls is t.0 t.2, block_within ls);
              before = before n ls is t.0 t.2;
              stops = λ lt more. stops_here n ls is t.0 t.2 lt more;
            },
          )

  block_good : (n : ℕ) (ls : List (List ℕ)) (a : K) (next : Ahead)
      → ◌≡◌ {A = Reads K} (block_read reading malformed (at_lines n ls)) (Ok (a, next))
      → (c : ℕ) × (next ≡ at_lines (n + c) (drop c ls)) × Takes (block_read reading malformed) n ls c a
  block_good n ls a next h = by (reading (block ls)) refl
    where
      by : (r : Option K) → reading (block ls) ≡ r
          → (c : ℕ) × (next ≡ at_lines (n + c) (drop c ls)) × Takes (block_read reading malformed) n ls c a
      by None is =
          let t = told_at (block ls) is in
          let clash : ◌≡◌ {A = Reads K} (Err (n + t.0)) (Ok (a, next)) =
          sym (stops_with n t.0 ls (block ls) refl is t.1) ∙ h in
          absurd (cc clash)
      by (Some q) is =
          let same : ◌≡◌ {A = K × Ahead} (q, behind_block (at_lines n ls)) (a, next) =
          cc (sym (block_ok reading malformed (at_lines n ls) q is) ∙ h) in
          let c = block_len ls in
          let ended = has (block ls) q is in (
            c,
            ap (λ p. p.1) (sym same),
            record {
              within = block_within ls;
              before = λ j lt.
                  lacks_next n (take j ls) (end_behind ls j lt)
                  (subst (BeginsText reading) (front_of n ls j (omega (arith, lt)))
                  (begins_front reading (block ls) j (begins_itself reading (block ls) q is)))
                  ∙ ap (λ i. Err (n + i)) (short n ls j (omega (arith, lt)));
              same = λ more.
                  let all = block ls ++ more in
                  let len : block_len all ≡ c =
                  end_long (block ls) more ended ∙ sym (end_long (block ls) (drop c ls) ended)
                  ∙ ap block_len (take-append-drop c ls) in
                  let l = long n ls in
                  let cut : block all ≡ block ls =
                  ap (λ i. take i all) (len ∙ sym l) ∙ take-append_seam (block ls) more in
                  let behind : drop (block_len all) all ≡ more =
                  ap (λ i. drop i all) (len ∙ sym l) ∙ drop-append_seam (block ls) more in
                  block_ok reading malformed (at_lines n all) q (ap reading cut ∙ is)
                  ∙ (λ i. Ok ((ap (λ (p : K × Ahead). p.0) same) i, at_lines (n + len i) (behind i)));
            },
          )

  pub block_front : IsFront (block_read reading malformed)
  block_front = record { bad = block_bad; good = block_good }
