-- Where a reading stops, and how much it reads.
use Rattle.std.proofs.Common.{◌≡◌, ◌⊎◌, ℕ, zero, suc, ◌+◌, ◌-◌, ◌<◌, ◌≤◌, Bool, true, false, List, [], ◌∷◌, ◌++◌}
use Rattle.std.proofs.Common.{length, take, drop, Result, Ok, Err, Option, Some, None, refl, ap, sym, ◌∙◌, arith}
use Rattle.std.proofs.Common.{append_assoc, inl, inr}
use Rattle.std.specs.Prelude.{if◌then◌else◌}
use Rattle.std.specs.Result.{result_map_both}
use Rattle.std.proofs.lemmas.Bool.{cases_lt}
use Rattle.std.proofs.lemmas.List.{drop-drop, length-drop}
use Rattle.std.proofs.Math.Seq.{take-add}
use Rattle.certificate_lines.specs.Lines.{is_blank}
use Rattle.certificate_lines.specs.Malformed.{first_unblank}
use Rattle.audit_file.specs.AuditText.{Ahead, Reads, read_on, line_from, line_read, times, blank_read}

abbrev pub at_lines : ℕ → List (List ℕ) → Ahead
at_lines n ls = record { number = n; lines = ls }

-- the line after k others is malformed: those before it lack just the next line, and with it nothing is read, whatever
-- follows it
pub record Stops {C : Type 0} (f : Ahead → Result C ℕ) (n : ℕ) (ls : List (List ℕ)) (k : ℕ) : Type 0 where
  pub within : k ≤ length ls
  pub before : (j : ℕ) → j ≤ k → f (at_lines n (take j ls)) ≡ Err (n + j)
  pub stops : k < length ls → (more : List (List ℕ)) → f (at_lines n (take (suc k) ls ++ more)) ≡ Err (n + k)

-- c lines are read, whatever follows them, and of fewer lines the next is lacking
pub record Takes {A : Type 0} (f : Ahead → Reads A) (n : ℕ) (ls : List (List ℕ)) (c : ℕ) (a : A) : Type 0 where
  pub within : c ≤ length ls
  pub before : (j : ℕ) → j < c → f (at_lines n (take j ls)) ≡ Err (n + j)
  pub same : (more : List (List ℕ))
      → ◌≡◌ {A = Reads A} (f (at_lines n (take c ls ++ more))) (Ok (a, at_lines (n + c) more))

-- a reading of some lines, and no look at those behind them
pub record IsFront {A : Type 0} (f : Ahead → Reads A) : Type 0 where
  pub bad : (n : ℕ) (ls : List (List ℕ)) (m : ℕ) → f (at_lines n ls) ≡ Err m → (k : ℕ) × (m ≡ n + k) × Stops f n ls k
  pub good : (n : ℕ) (ls : List (List ℕ)) (a : A) (next : Ahead) → ◌≡◌ {A = Reads A} (f (at_lines n ls)) (Ok (a, next))
      → (c : ℕ) × (next ≡ at_lines (n + c) (drop c ls)) × Takes f n ls c a

-- ---- two readings

-- j lines, of which c or more are read first
split : (c j : ℕ) (ls : List (List ℕ)) → c ≤ j → take j ls ≡ take c ls ++ take (j - c) (drop c ls)
split c j ls le = let e : j ≡ c + (j - c) = omega (arith, le) in ap (λ k. take k ls) e ∙ take-add c (j - c) ls

module _ {A B : Type 0} (f : Ahead → Reads A) (g : A → Ahead → Result B ℕ) where
  abbrev both : Ahead → Result B ℕ
  both at = read_on (f at) g

  fails : (n m : ℕ) (ls : List (List ℕ)) → f (at_lines n ls) ≡ Err m → both (at_lines n ls) ≡ Err m
  fails n m ls is = ap (λ (r : Reads A). read_on r g) is

  -- what is behind the lines of the first is left to the second
  module _ (n : ℕ) (ls : List (List ℕ)) (c : ℕ) (a : A) (first : Takes f n ls c a) where
    goes_on : (more : List (List ℕ)) → both (at_lines n (take c ls ++ more)) ≡ g a (at_lines (n + c) more)
    goes_on more = ap (λ (r : Reads A). read_on r g) (first.same more)

    shorter : (j : ℕ) → c ≤ j → both (at_lines n (take j ls)) ≡ g a (at_lines (n + c) (take (j - c) (drop c ls)))
    shorter j le = ap (λ x. both (at_lines n x)) (split c j ls le) ∙ goes_on (take (j - c) (drop c ls))

    longer : (k : ℕ) (more : List (List ℕ))
        → both (at_lines n (take (suc (c + k)) ls ++ more)) ≡ g a (at_lines (n + c) (take (suc k) (drop c ls) ++ more))
    longer k more =
        let e : suc (c + k) - c ≡ suc k = omega arith in
        ap (λ x. both (at_lines n (x ++ more))) (split c (suc (c + k)) ls (omega arith))
        ∙ ap (λ x. both (at_lines n x)) (append_assoc (take c ls) (take (suc (c + k) - c) (drop c ls)) more)
        ∙ goes_on (take (suc (c + k) - c) (drop c ls) ++ more)
        ∙ ap (λ i. g a (at_lines (n + c) (take i (drop c ls) ++ more))) e

  module _ (front : IsFront f) where
    -- where the second stops, both do
    stops_after : (n : ℕ) (ls : List (List ℕ)) (c : ℕ) (a : A) → Takes f n ls c a → (k : ℕ)
        → Stops (g a) (n + c) (drop c ls) k → Stops both n ls (c + k)
    stops_after n ls c a first k second = record {
      within = omega (arith, first.within, second.within, length-drop c ls);
      before = λ j le. elim (cases_lt j c) [
        | inl less ↦ fails n (n + j) (take j ls) (first.before j less)
        | inr more ↦
            let e : n + c + (j - c) ≡ n + j = omega (arith, more) in
            shorter n ls c a first j more ∙ second.before (j - c) (omega (arith, le, more)) ∙ ap Err e
      ];
      stops =
          λ lt more.
          let e : n + c + k ≡ n + (c + k) = omega arith in
          longer n ls c a first k more ∙ second.stops (omega (arith, lt, length-drop c ls)) more ∙ ap Err e;
    }

    stops_first : (n : ℕ) (ls : List (List ℕ)) (k : ℕ) → Stops f n ls k → Stops both n ls k
    stops_first n ls k first = record {
      within = first.within;
      before = λ j le. fails n (n + j) (take j ls) (first.before j le);
      stops = λ lt more. fails n (n + k) (take (suc k) ls ++ more) (first.stops lt more);
    }

module _ {A B : Type 0} (f : Ahead → Reads A) (g : A → Ahead → Reads B) (front : IsFront f)
    (fronts : (a : A) → IsFront (g a)) where
  bad_both : (n : ℕ) (ls : List (List ℕ)) (m : ℕ) → both f g (at_lines n ls) ≡ Err m
      → (k : ℕ) × (m ≡ n + k) × Stops (both f g) n ls k
  bad_both n ls m h = by (f (at_lines n ls)) refl
    where
      by : (r : Reads A) → f (at_lines n ls) ≡ r → (k : ℕ) × (m ≡ n + k) × Stops (both f g) n ls k
      by (Err p) is =
          let same : p ≡ m = cc (sym (fails f g n p ls is) ∙ h) in
          let b = front.bad n ls p is in
          (b.0, sym same ∙ b.1, stops_first f g front n ls b.0 b.2)
      by (Ok p) is =
          let t = front.good n ls p.0 p.1 is in
          let second : g p.0 (at_lines (n + t.0) (drop t.0 ls)) ≡ Err m =
          ap (g p.0) (sym t.1) ∙ sym (ap (λ (r : Reads A). read_on r g) is) ∙ h in
          let b = (fronts p.0).bad (n + t.0) (drop t.0 ls) m second in
          let e : n + t.0 + b.0 ≡ n + (t.0 + b.0) = omega arith in
          (t.0 + b.0, b.1 ∙ e, stops_after f g front n ls t.0 p.0 t.2 b.0 b.2)

  good_both : (n : ℕ) (ls : List (List ℕ)) (b : B) (next : Ahead)
      → ◌≡◌ {A = Reads B} (both f g (at_lines n ls)) (Ok (b, next))
      → (c : ℕ) × (next ≡ at_lines (n + c) (drop c ls)) × Takes (both f g) n ls c b
  good_both n ls b next h = by (f (at_lines n ls)) refl
    where
      by : (r : Reads A) → f (at_lines n ls) ≡ r
          → (c : ℕ) × (next ≡ at_lines (n + c) (drop c ls)) × Takes (both f g) n ls c b
      by (Err p) is =
          let clash : ◌≡◌ {A = Reads B} (Err p) (Ok (b, next)) = sym (fails f g n p ls is) ∙ h in absurd (cc clash)
      by (Ok p) is =
          let t = front.good n ls p.0 p.1 is in
          let c = t.0 in
          let second : ◌≡◌ {A = Reads B} (g p.0 (at_lines (n + c) (drop c ls))) (Ok (b, next)) =
          ap (g p.0) (sym t.1) ∙ sym (ap (λ (r : Reads A). read_on r g) is) ∙ h in
          let u = (fronts p.0).good (n + c) (drop c ls) b next second in
          let d = u.0 in
          let e : n + c + d ≡ n + (c + d) = omega arith in
          let total : c + d - c ≡ d = omega arith in (
            c + d,
            u.1 ∙ (λ i. at_lines (e i) (drop-drop d c ls i)),
            record {
              within = omega (arith, t.2.within, u.2.within, length-drop c ls);
              before = λ j lt. elim (cases_lt j c) [
                | inl less ↦ fails f g n (n + j) (take j ls) (t.2.before j less)
                | inr more ↦
                    let e' : n + c + (j - c) ≡ n + j = omega (arith, more) in
                    shorter f g n ls c p.0 t.2 j more ∙ u.2.before (j - c) (omega (arith, lt, more)) ∙ ap Err e'
              ];
              same = λ more.
                  ap (λ x. both f g (at_lines n (x ++ more))) (split c (c + d) ls (omega arith))
                  ∙ ap (λ x. both f g (at_lines n x)) (append_assoc (take c ls) (take (c + d - c) (drop c ls)) more)
                  ∙ goes_on f g n ls c p.0 t.2 (take (c + d - c) (drop c ls) ++ more)
                  ∙ ap (λ i. g p.0 (at_lines (n + c) (take i (drop c ls) ++ more))) total
                  ∙ u.2.same more
                  ∙ ap (λ i. Ok (b, at_lines i more)) e;
            },
          )

  pub both_front : IsFront (λ at. read_on (f at) g)
  both_front = record { bad = bad_both; good = good_both }

-- ---- one line

module _ {A : Type 0} (says : List ℕ → Option A) where
  line_as : (n : ℕ) (l : List ℕ) (ls : List (List ℕ)) (r : Option A) → says l ≡ r
      → line_from says n (l ∷ ls) ≡ elim r [ None ↦ Err n | Some a ↦ Ok (a, at_lines (n + 1) ls) ]
  line_as n l ls r is = ap (λ (s : Option A). elim s [ None ↦ Err n | Some a ↦ Ok (a, at_lines (n + 1) ls) ]) is

  plus_none : (n j : ℕ) → j ≤ 0 → n ≡ n + j
  plus_none n j le = omega (arith, le)

  none_taken : (n j : ℕ) (ls : List (List ℕ)) → j ≤ 0 → line_read says (at_lines n (take j ls)) ≡ Err (n + j)
  none_taken n j ls le =
      let e : j ≡ 0 = omega (arith, le) in
      ap (λ i. line_from says n (take i ls)) e ∙ ap Err (plus_none n j le)

  line_bad : (n : ℕ) (ls : List (List ℕ)) (m : ℕ) → line_from says n ls ≡ Err m
      → (k : ℕ) × (m ≡ n + k) × Stops (line_read says) n ls k
  line_bad n [] m h =
      let same : n ≡ m = cc h in (
        0,
        sym same ∙ plus_none n 0 (omega arith),
        record {
          within = omega arith;
          before = λ j le. none_taken n j [] le;
          stops = λ lt. absurd (omega (arith, lt));
        },
      )
  line_bad n (l ∷ ls) m h = by (says l) refl
    where
      by : (r : Option A) → says l ≡ r → (k : ℕ) × (m ≡ n + k) × Stops (line_read says) n (l ∷ ls) k
      by None is =
          let same : n ≡ m = cc (sym (line_as n l ls None is) ∙ h) in (
            0,
            sym same ∙ plus_none n 0 (omega arith),
            record {
              within = omega arith;
              before = λ j le. none_taken n j (l ∷ ls) le;
              stops = λ lt more. line_as n l more None is ∙ ap Err (plus_none n 0 (omega arith));
            },
          )
      by (Some a) is =
          let clash : ◌≡◌ {A = Reads A} (Ok (a, at_lines (n + 1) ls)) (Err m) = sym (line_as n l ls (Some a) is) ∙ h in
          absurd (cc clash)

  line_good : (n : ℕ) (ls : List (List ℕ)) (a : A) (next : Ahead)
      → ◌≡◌ {A = Reads A} (line_from says n ls) (Ok (a, next))
      → (c : ℕ) × (next ≡ at_lines (n + c) (drop c ls)) × Takes (line_read says) n ls c a
  line_good n [] a next h = let clash : ◌≡◌ {A = Reads A} (Err n) (Ok (a, next)) = h in absurd (cc clash)
  line_good n (l ∷ ls) a next h = by (says l) refl
    where
      by : (r : Option A) → says l ≡ r
          → (c : ℕ) × (next ≡ at_lines (n + c) (drop c (l ∷ ls))) × Takes (line_read says) n (l ∷ ls) c a
      by None is =
          let clash : ◌≡◌ {A = Reads A} (Err n) (Ok (a, next)) = sym (line_as n l ls None is) ∙ h in absurd (cc clash)
      by (Some b) is =
          let same : ◌≡◌ {A = A × Ahead} (b, at_lines (n + 1) ls) (a, next) =
          cc (sym (line_as n l ls (Some b) is) ∙ h) in (
            1,
            ap (λ p. p.1) (sym same),
            record {
              within = omega arith;
              before = λ j lt. none_taken n j (l ∷ ls) (omega (arith, lt));
              same =
                  λ more. line_as n l more (Some b) is ∙ ap (λ (p : A × Ahead). Ok (p.0, at_lines (n + 1) more)) same;
            },
          )

  pub line_front : IsFront (line_read says)
  line_front = record { bad = line_bad; good = line_good }

-- ---- as many as a number says

pub done_front : {A : Type 0} (a : A) → IsFront (λ at. Ok (a, at))
done_front {A = A} a = record {
  bad = λ n ls m h. (let clash : ◌≡◌ {A = Reads A} (Ok (a, at_lines n ls)) (Err m) = h in absurd (cc clash));
  good = λ n ls b next h.
      let same : ◌≡◌ {A = A × Ahead} (a, at_lines n ls) (b, next) = cc h in
      let e : n ≡ n + 0 = omega arith in (
        0,
        ap (λ p. p.1) (sym same) ∙ (λ i. at_lines (e i) ls),
        record {
          within = omega arith;
          before = λ j lt. absurd (omega (arith, lt));
          same = λ more i. Ok ((ap (λ (p : A × Ahead). p.0) same) i, at_lines (e i) more);
        },
      );
}

pub times_front : {A : Type 0} (step : ℕ → A → Ahead → Reads A) → ((k : ℕ) (a : A) → IsFront (step k a)) → (n : ℕ)
    (a : A) → IsFront (times step n a)
times_front step fronts zero a = done_front a
times_front step fronts (suc n) a = both_front (step n a) (times step n) (fronts n a) (times_front step fronts n)

-- ---- the last lines

-- the line after k others is the first that is wrong: those before it are enough, or lack just the next line
pub record Ends {C : Type 0} (f : Ahead → Result C ℕ) (n : ℕ) (ls : List (List ℕ)) (k : ℕ) : Type 0 where
  pub within : k ≤ length ls
  pub before : (j : ℕ) → j ≤ k
      → ((c : C) × (f (at_lines n (take j ls)) ≡ Ok c)) ⊎ (f (at_lines n (take j ls)) ≡ Err (n + j))
  pub stops : k < length ls → (more : List (List ℕ)) → f (at_lines n (take (suc k) ls ++ more)) ≡ Err (n + k)

abbrev pub IsLast : {C : Type 0} → (Ahead → Result C ℕ) → Type 0
IsLast f = (n : ℕ) (ls : List (List ℕ)) (m : ℕ) → f (at_lines n ls) ≡ Err m → (k : ℕ) × (m ≡ n + k) × Ends f n ls k

module _ {A B : Type 0} (f : Ahead → Reads A) (g : A → Ahead → Result B ℕ) (front : IsFront f)
    (lasts : (a : A) → IsLast (g a)) where
  pub both_last : IsLast (λ at. read_on (f at) g)
  both_last n ls m h = by (f (at_lines n ls)) refl
    where
      by : (r : Reads A) → f (at_lines n ls) ≡ r → (k : ℕ) × (m ≡ n + k) × Ends (both f g) n ls k
      by (Err p) is =
          let same : p ≡ m = cc (sym (fails f g n p ls is) ∙ h) in
          let b = front.bad n ls p is in (
            b.0,
            sym same ∙ b.1,
            record {
              within = b.2.within;
              before = λ j le. inr (fails f g n (n + j) (take j ls) (b.2.before j le));
              stops = λ lt more. fails f g n (n + b.0) (take (suc b.0) ls ++ more) (b.2.stops lt more);
            },
          )
      by (Ok p) is =
          let t = front.good n ls p.0 p.1 is in
          let c = t.0 in
          let second : g p.0 (at_lines (n + c) (drop c ls)) ≡ Err m =
          ap (g p.0) (sym t.1) ∙ sym (ap (λ (r : Reads A). read_on r g) is) ∙ h in
          let b = lasts p.0 (n + c) (drop c ls) m second in
          let e : n + c + b.0 ≡ n + (c + b.0) = omega arith in (
            c + b.0,
            b.1 ∙ e,
            record {
              within = omega (arith, t.2.within, b.2.within, length-drop c ls);
              before = λ j le. elim (cases_lt j c) [
                | inl less ↦ inr (fails f g n (n + j) (take j ls) (t.2.before j less))
                | inr more ↦
                    let e' : n + c + (j - c) ≡ n + j = omega (arith, more) in
                    elim (b.2.before (j - c) (omega (arith, le, more))) [
                      | inl ok ↦ inl (ok.0, shorter f g n ls c p.0 t.2 j more ∙ ok.1)
                      | inr lacks ↦ inr (shorter f g n ls c p.0 t.2 j more ∙ lacks ∙ ap Err e')
                    ]
              ];
              stops =
                  λ lt more. longer f g n ls c p.0 t.2 b.0 more ∙ b.2.stops (omega (arith, lt, length-drop c ls)) more
                  ∙ ap Err e;
            },
          )

-- ---- blank lines

pub record Unblank (n : ℕ) (ls : List (List ℕ)) (m : ℕ) : Type 0 where
  pub k : ℕ
  pub is : m ≡ n + k
  pub within : k < length ls
  pub before : (j : ℕ) → j ≤ k → first_unblank n (take j ls) ≡ None
  pub stops : (more : List (List ℕ)) → first_unblank n (take (suc k) ls ++ more) ≡ Some (n + k)

pub unblank : (ls : List (List ℕ)) (n m : ℕ) → first_unblank n ls ≡ Some m → Unblank n ls m
unblank [] n m h = let clash : ◌≡◌ {A = Option ℕ} None (Some m) = h in absurd (cc clash)
unblank (l ∷ ls) n m h = by (is_blank l) refl (unblank ls (n + 1) m)
  where
    as_ : (n : ℕ) (rest : List (List ℕ)) (b : Bool) → is_blank l ≡ b
        → first_unblank n (l ∷ rest) ≡ (if b then first_unblank (n + 1) rest else Some n)
    as_ n rest b is = ap (λ c. if c then first_unblank (n + 1) rest else Some n) is

    by : (b : Bool) → is_blank l ≡ b → (first_unblank (n + 1) ls ≡ Some m → Unblank (n + 1) ls m) → Unblank n (l ∷ ls) m
    by false is later =
        let same : n ≡ m = cc (sym (as_ n ls false is) ∙ h) in
        let e : n ≡ n + 0 = omega arith in
        record {
          k = 0;
          is = sym same ∙ e;
          within = omega arith;
          before = λ j le. (let none : j ≡ 0 = omega (arith, le) in ap (λ i. first_unblank n (take i (l ∷ ls))) none);
          stops = λ more. as_ n more false is ∙ ap Some e;
        }
    by true is later =
        let r = later (sym (as_ n ls true is) ∙ h) in
        let e : n + 1 + r.k ≡ n + suc r.k = omega arith in
        record {
          k = suc r.k;
          is = r.is ∙ e;
          within = omega (arith, r.within);
          before = before r;
          stops = λ more. as_ n (take (suc r.k) ls ++ more) true is ∙ r.stops more ∙ ap Some e;
        }
      where
        before : (r : Unblank (n + 1) ls m) (j : ℕ) → j ≤ suc r.k → first_unblank n (take j (l ∷ ls)) ≡ None
        before r zero le = refl
        before r (suc j) le = as_ n (take j ls) true is ∙ r.before j (omega (arith, le))

pub blank_last : IsLast blank_read
blank_last n ls m h = by (first_unblank n ls) refl
  where
    as_ : (xs : List (List ℕ)) (r : Option ℕ) → first_unblank n xs ≡ r
        → blank_read (at_lines n xs) ≡ elim r [ None ↦ Ok tt | Some p ↦ Err p ]
    as_ xs r is = ap (λ (s : Option ℕ). elim s [ None ↦ Ok tt | Some p ↦ Err p ]) is

    by : (r : Option ℕ) → first_unblank n ls ≡ r → (k : ℕ) × (m ≡ n + k) × Ends blank_read n ls k
    by None is =
        let clash : ◌≡◌ {A = Result (Unit {0}) ℕ} (Ok tt) (Err m) = sym (as_ ls None is) ∙ h in absurd (cc clash)
    by (Some p) is =
        let same : p ≡ m = cc (sym (as_ ls (Some p) is) ∙ h) in
        let r = unblank ls n p is in (
          r.k,
          sym same ∙ r.is,
          record {
            within = omega (arith, r.within);
            before = λ j le. inl (tt, as_ (take j ls) None (r.before j le));
            stops = λ lt more. as_ (take (suc r.k) ls ++ more) (Some (n + r.k)) (r.stops more);
          },
        )

-- what is made of what was read
pub mapped_last : {B C : Type 0} (make : B → C) (f : Ahead → Result B ℕ) → IsLast f
    → IsLast (λ at. result_map_both make (λ n. n) (f at))
mapped_last {B = B} {C = C} make f last n ls m h = by (f (at_lines n ls)) refl
  where
    made : Result B ℕ → Result C ℕ
    made r = result_map_both make (λ p. p) r

    by : (r : Result B ℕ) → f (at_lines n ls) ≡ r → (k : ℕ) × (m ≡ n + k) × Ends (λ at. made (f at)) n ls k
    by (Ok b) is = let clash : ◌≡◌ {A = Result C ℕ} (Ok (make b)) (Err m) = sym (ap made is) ∙ h in absurd (cc clash)
    by (Err p) is =
        let same : p ≡ m = cc (sym (ap made is) ∙ h) in
        let r = last n ls p is in (
          r.0,
          sym same ∙ r.1,
          record {
            within = r.2.within;
            before =
                λ j le. elim (r.2.before j le)
                [ inl ok ↦ inl (make ok.0, ap made ok.1) | inr lacks ↦ inr (ap made lacks) ];
            stops = λ lt more. ap made (r.2.stops lt more);
          },
        )
