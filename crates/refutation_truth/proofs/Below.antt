-- Tests and counts of the numbers below a bound.
use Rattle.std.proofs.Common.{◌≡◌, ℕ, zero, suc, ◌+◌, ◌<◌, ◌≤◌, ◌&&◌, Bool, true, false, not, cond, eqb, refl, ap, ◌∙◌}
use Rattle.std.proofs.Common.{sym, subst, arith, inl, inr}
use Rattle.std.proofs.lemmas.Bool.{cases_eq, and_parts, and_from, and_right, eq-eqb, ne_eqb}
use Rattle.std.proofs.Math.Bool.{and-true}
use Rattle.shq_nnf.specs.Below.{all_below, count_below}

-- ---- tests

pub all_at : (n : ℕ) (p : ℕ → Bool) (y : ℕ) → all_below n p ≡ true → y < n → p y ≡ true
all_at zero p y h lt = absurd (omega arith)
all_at (suc n) p y h lt =
    let both = and_parts (all_below n p) (p n) h in
    elim (cases_eq y n) [
      | inl same ↦ subst (λ (k : ℕ). p k ≡ true) (sym same) both.1
      | inr other ↦ all_at n p y both.0 (omega arith)
    ]

pub all_from : (n : ℕ) (p : ℕ → Bool) → ((y : ℕ) → y < n → p y ≡ true) → all_below n p ≡ true
all_from zero p each = refl
all_from (suc n) p each =
    and_from (all_below n p) (p n) (all_from n p (λ y lt. each y (omega arith))) (each n (omega arith))

-- ---- so many different numbers that pass

pub record Picks (m : ℕ) (p : ℕ → Bool) (n : ℕ) : Type 0 where
  pub pick : ℕ → ℕ
  pub below : (j : ℕ) → j < n → pick j < m
  pub passes : (j : ℕ) → j < n → p (pick j) ≡ true
  pub different : (j k : ℕ) → j < k → k < n → pick j ≡ pick k → ⊥

abbrev put_at : ℕ → ℕ → (ℕ → ℕ) → ℕ → ℕ
put_at n m f j = cond (eqb j n) m (f j)

put_here : (n m : ℕ) (f : ℕ → ℕ) (j : ℕ) → j ≡ n → put_at n m f j ≡ m
put_here n m f j e = ap (λ (b : Bool). cond b m (f j)) (eq-eqb j n e)

put_elsewhere : (n m : ℕ) (f : ℕ → ℕ) (j : ℕ) → (j ≡ n → ⊥) → put_at n m f j ≡ f j
put_elsewhere n m f j e = ap (λ (b : Bool). cond b m (f j)) (ne_eqb j n e)

one_more : (m : ℕ) (p : ℕ → Bool) (n : ℕ) → p m ≡ true → Picks m p n → Picks (suc m) p (suc n)
one_more m p n h q = record {
  pick = put_at n m q.pick;
  below = λ j lt. elim (cases_eq j n) [
    | inl e ↦ let is = put_here n m q.pick j e in omega arith
    | inr ne ↦ let is = put_elsewhere n m q.pick j ne in let less = q.below j (omega arith) in omega arith
  ];
  passes = λ j lt. elim (cases_eq j n) [
    | inl e ↦ ap p (put_here n m q.pick j e) ∙ h
    | inr ne ↦ ap p (put_elsewhere n m q.pick j ne) ∙ q.passes j (omega arith)
  ];
  different = λ j k lt le same.
      let left = put_elsewhere n m q.pick j (λ e. omega arith) in
      elim (cases_eq k n) [
        | inl e ↦ let right = put_here n m q.pick k e in let less = q.below j (omega arith) in omega arith
        | inr ne ↦ let right = put_elsewhere n m q.pick k ne in q.different j k lt (omega arith) (omega arith)
      ];
}

as_many : (m : ℕ) (p : ℕ → Bool) (n : ℕ) → Picks m p n → Picks (suc m) p n
as_many m p n q = record {
  pick = q.pick;
  below = λ j lt. let less = q.below j lt in omega arith;
  passes = q.passes;
  different = q.different;
}

none_picked : (m : ℕ) (p : ℕ → Bool) → Picks m p 0
none_picked m p = record {
  pick = λ j. j;
  below = λ j lt. absurd (omega arith);
  passes = λ j lt. absurd (omega arith);
  different = λ j k lt less same. omega arith;
}

picks_by : (m : ℕ) (p : ℕ → Bool) (n : ℕ) (b : Bool) → p m ≡ b → n ≤ count_below m p + cond b 1 0
    → ((k : ℕ) → k ≤ count_below m p → Picks m p k) → Picks (suc m) p n
picks_by m p n false e le rest = as_many m p n (rest n (omega arith))
picks_by m p zero true e le rest = none_picked (suc m) p
picks_by m p (suc n) true e le rest = one_more m p n e (rest n (omega arith))

-- as many as are counted
pub picks : (m : ℕ) (p : ℕ → Bool) (n : ℕ) → n ≤ count_below m p → Picks m p n
picks zero p n le = let e : 0 ≡ n = omega arith in subst (Picks 0 p) e (none_picked 0 p)
picks (suc m) p n le = picks_by m p n (p m) refl le (picks m p)

-- ---- the count without a number

count_agree : (m : ℕ) (p q : ℕ → Bool) → ((y : ℕ) → y < m → p y ≡ q y) → count_below m p ≡ count_below m q
count_agree zero p q same = refl
count_agree (suc m) p q same =
    let rest = count_agree m p q (λ y lt. same y (omega arith)) in
    let here = same m (omega arith) in
    λ i. rest i + cond (here i) 1 0

-- the numbers other than v that pass
abbrev pub but : (ℕ → Bool) → ℕ → ℕ → Bool
but p v y = p y && not (eqb y v)

other_passes : (p : ℕ → Bool) (v y : ℕ) → (y ≡ v → ⊥) → but p v y ≡ p y
other_passes p v y ne = ap (λ (b : Bool). p y && not b) (ne_eqb y v ne) ∙ and-true (p y)

itself_fails : (p : ℕ → Bool) (v y : ℕ) → y ≡ v → but p v y ≡ false
itself_fails p v y e = and_right (p y) (not (eqb y v)) (ap not (eq-eqb y v e))

pub count_but : (m : ℕ) (p : ℕ → Bool) (v : ℕ) → v < m → p v ≡ true → count_below m p ≡ suc (count_below m (but p v))
count_but zero p v lt h = absurd (omega arith)
count_but (suc m) p v lt h =
    elim (cases_eq v m) [
      | inl e ↦
          let rest = count_agree m p (but p v) (λ y less. sym (other_passes p v y (λ same. omega arith))) in
          let here = subst (λ (k : ℕ). p k ≡ true) e h in
          let gone = itself_fails p v m (sym e) in
          let plus : count_below (suc m) p ≡ count_below m (but p v) + 1 = λ i. rest i + cond (here i) 1 0 in
          let none : count_below (suc m) (but p v) ≡ count_below m (but p v) + 0 =
          ap (λ (b : Bool). count_below m (but p v) + cond b 1 0) gone in
          omega (arith, plus, none)
      | inr ne ↦
          let rest = count_but m p v (omega arith) h in
          let here = other_passes p v m (λ same. ne (sym same)) in
          let more : count_below (suc m) (but p v) ≡ count_below m (but p v) + cond (p m) 1 0 =
          ap (λ (b : Bool). count_below m (but p v) + cond b 1 0) here in
          omega (arith, rest, more)
    ]
