-- The transitive roles between two roles, as a list.
use Rattle.std.proofs.Common.{◌≡◌, ℕ, zero, suc, ◌+◌, ◌-◌, ◌<◌, ◌≤◌, ◌&&◌, ◌⊎◌, cond, Bool, true, false, List, [], ◌∷◌}
use Rattle.std.proofs.Common.{refl, ap, sym, ◌∙◌, subst, arith, inl, inr}
use Rattle.std.specs.Prelude.{filter}
use Rattle.std.specs.List.{Contains, range_with_len}
use Rattle.std.specs.List.Sorted.{IsStrictlyIncreasing}
use Rattle.std.proofs.lemmas.Bool.{and_parts, and_from, cases_Bool}
use Rattle.std.proofs.lemmas.List.Elements.{All-contains, filter_passes}
use Rattle.std.proofs.lemmas.List.FromFn.{length-range_with_len, get_or-range_with_len}
use Rattle.std.proofs.lemmas.List.Kept.{IsStrictlyIncreasing-filter}
use Rattle.role_box.specs.declared.role_axiom.RoleAxiom.{RoleAxiom}
use Rattle.role_box.specs.Steps.{is_transitive}
use Rattle.role_box.specs.Paths.{role_limit, is_below}
use Rattle.role_box.specs.Closure.{is_between, between_from, AreBetween}
use Rattle.role_box.proofs.Limits.{transitive_within, test_is_below}

-- ---- one number after another

next_numbers : (first end : ℕ) → first < end
    → range_with_len first (end - first) ≡ first ∷ range_with_len (first + 1) (end - (first + 1))
next_numbers first end lt =
    let e : end - first ≡ suc (end - (first + 1)) = omega arith in
    ap (λ (n : ℕ). range_with_len first n) e

filter_next : (p : ℕ → Bool) (x : ℕ) (xs : List ℕ) (b : Bool) → p x ≡ b
    → filter p (x ∷ xs) ≡ cond b (x ∷ filter p xs) (filter p xs)
filter_next p x xs b e = ap (λ (c : Bool). cond c (x ∷ filter p xs) (filter p xs)) e

pub between_hit : (axioms : List RoleAxiom) (lower upper first end : ℕ) → first < end
    → is_between axioms lower upper first ≡ true
    → between_from axioms lower upper first end ≡ first ∷ between_from axioms lower upper (first + 1) end
between_hit axioms lower upper first end lt h =
    ap (λ (xs : List ℕ). filter (is_between axioms lower upper) xs) (next_numbers first end lt)
    ∙ filter_next (is_between axioms lower upper) first (range_with_len (first + 1) (end - (first + 1))) true h

pub between_miss : (axioms : List RoleAxiom) (lower upper first end : ℕ) → first < end
    → is_between axioms lower upper first ≡ false
    → between_from axioms lower upper first end ≡ between_from axioms lower upper (first + 1) end
between_miss axioms lower upper first end lt h =
    ap (λ (xs : List ℕ). filter (is_between axioms lower upper) xs) (next_numbers first end lt)
    ∙ filter_next (is_between axioms lower upper) first (range_with_len (first + 1) (end - (first + 1))) false h

-- ---- what the list has

contains_here : (x : ℕ) (xs : List ℕ) → Contains (x ∷ xs) x
contains_here x xs = (0, omega arith, refl)

contains_there : (x y : ℕ) (xs : List ℕ) → Contains xs y → Contains (x ∷ xs) y
contains_there x y xs h = (suc h.0, (let lt = h.1 in omega arith), h.2)

contains_cases : (x y : ℕ) (xs : List ℕ) → Contains (x ∷ xs) y → (x ≡ y) ⊎ Contains xs y
contains_cases x y xs (zero, lt, e) = inl e
contains_cases x y xs (suc k, lt, e) = inr (k, (omega arith), e)

filter_from : (p : ℕ → Bool) (xs : List ℕ) (y : ℕ) → Contains xs y → p y ≡ true → Contains (filter p xs) y
filter_from p [] y h t = absurd (omega (arith, h.1))
filter_from p (x ∷ xs) y h t =
    elim (contains_cases x y xs h) [
      | inl e ↦ (let hit : p x ≡ true = subst (λ (z : ℕ). p z ≡ true) (sym e) t in
          subst (λ (zs : List ℕ). Contains zs y) (sym (filter_next p x xs true hit))
          (subst (λ (z : ℕ). Contains (z ∷ filter p xs) y) (sym e) (contains_here y (filter p xs))))
      | inr later ↦
          (let rest = filter_from p xs y later t in
          elim (cases_Bool (p x)) [
            | inl hit ↦
                subst (λ (zs : List ℕ). Contains zs y) (sym (filter_next p x xs true hit))
                (contains_there x y (filter p xs) rest)
            | inr miss ↦ subst (λ (zs : List ℕ). Contains zs y) (sym (filter_next p x xs false miss)) rest
          ])
    ]

range_has : (n t : ℕ) → t < n → Contains (range_with_len 0 n) t
range_has n t lt = (t, omega (arith, length-range_with_len 0 n), omega (arith, get_or-range_with_len 0 n t t lt))

range_increases : (n first : ℕ) → IsStrictlyIncreasing (range_with_len first n)
range_increases n first k lt =
    let len = length-range_with_len first n in
    let a = get_or-range_with_len first n k 0 (omega arith) in
    let b = get_or-range_with_len first n (k + 1) 0 (omega arith) in
    omega arith

pub between_ascending : (axioms : List RoleAxiom) (lower upper end : ℕ)
    → IsStrictlyIncreasing (between_from axioms lower upper 0 end)
between_ascending axioms lower upper end =
    IsStrictlyIncreasing-filter (is_between axioms lower upper) (range_with_len 0 (end - 0))
    (range_increases (end - 0) 0)

pub between_members : (axioms : List RoleAxiom) (lower upper end : ℕ) → role_limit axioms ≤ end
    → AreBetween axioms lower upper (between_from axioms lower upper 0 end)
between_members axioms lower upper end le = λ t. (
  λ h.
      (let all =
      and_parts (is_transitive axioms t && is_below axioms lower t) (is_below axioms t upper)
      (All-contains (λ (x : ℕ). is_between axioms lower upper x ≡ true)
      (filter (is_between axioms lower upper) (range_with_len 0 (end - 0))) t
      (filter_passes (is_between axioms lower upper) (range_with_len 0 (end - 0))) h) in
      let two = and_parts (is_transitive axioms t) (is_below axioms lower t) all.0 in
      (two.0, (test_is_below axioms lower t).0 two.1, (test_is_below axioms t upper).0 all.1)),
  λ h.
      (let within = transitive_within axioms t h.0 in
      filter_from (is_between axioms lower upper) (range_with_len 0 (end - 0)) t (range_has (end - 0) t (omega arith))
      (and_from (is_transitive axioms t && is_below axioms lower t) (is_below axioms t upper)
      (and_from (is_transitive axioms t) (is_below axioms lower t) h.0 ((test_is_below axioms lower t).1 h.1))
      ((test_is_below axioms t upper).1 h.2))),
)
