-- The pairs of a role that begin with an element, as a part of a set in order.
use Rattle.std.proofs.Common.{◌≡◌, ℕ, zero, suc, ◌+◌, Bool, true, false, ◌&&◌, ◌||◌, cond, List, [], ◌∷◌, refl, ap}
use Rattle.std.proofs.Common.{subst, sym, ◌∙◌, inl, inr, arith}
use Rattle.std.specs.Prelude.{nat_eq, nat_le, if◌then◌else◌}
use Rattle.std.proofs.lemmas.Bool.{cases_eq}
use Rattle.std.proofs.Math.Bool.{and-true}
use Rattle.std.specs.List.{filter, list_all, list_any}
use Rattle.std.specs.declared.ops.Bound.TheVariants.{Included, Excluded}
use Rattle.std.specs.BTreeMap.Range.{range_contains}
use Rattle.std.proofs.lemmas.Bool.Decides.{nat_tests}
use Rattle.shq_terms.proofs.Bools.{and_exchange}
use Rattle.shq_meaning.specs.Below.{all_below}
use Rattle.shq_meaning.specs.Truth.{implies}
use Rattle.finite_model.specs.ModelLists.{is_link, is_from, tuple_cmp}

-- the part of a set of triples that begin with r and x
abbrev pub row_of : ℕ → ℕ → List (ℕ × ℕ × ℕ) → List (ℕ × ℕ × ℕ)
row_of r x ls = filter (range_contains tuple_cmp (Included (r, x, 0)) (Excluded (r, x + 1, 0))) ls

between : (r x : ℕ) (l : ℕ × ℕ × ℕ)
    → range_contains tuple_cmp (Included (r, x, 0)) (Excluded (r, x + 1, 0)) l ≡ is_from r x l
between r x l = grind (arith, nat_tests)

pub row_between : (r x : ℕ) (ls : List (ℕ × ℕ × ℕ)) → row_of r x ls ≡ filter (is_from r x) ls
row_between r x ls = ap (λ (p : ℕ × ℕ × ℕ → Bool). filter p ls) (λ i l. between r x l i)

pub all_true : (n : ℕ) → all_below n (λ y. true) ≡ true
all_true zero = refl
all_true (suc n) = ap (λ v. v && true) (all_true n)

pub all_both : (n : ℕ) (p q : ℕ → Bool) → all_below n (λ y. p y && q y) ≡ (all_below n p && all_below n q)
all_both zero p q = refl
all_both (suc n) p q =
    ap (λ v. v && (p n && q n)) (all_both n p q) ∙ and_exchange (all_below n p) (all_below n q) (p n) (q n)

either : (a b c : Bool) → implies (a || b) c ≡ (implies a c && implies b c)
either true true true = refl
either true true false = refl
either true false true = refl
either true false false = refl
either false b c = refl

last : (n z : ℕ) (q : ℕ → Bool) → ((nat_le n z || q z) && implies (nat_eq z n) (q n)) ≡ (nat_le (suc n) z || q z)
last n z q = elim (cases_eq z n) [
  | inl same ↦ at_end same
  | inr other ↦ before other
]
  where
    here : (z : ℕ) → ((nat_le z z || q z) && implies (nat_eq z z) (q z)) ≡ (nat_le (suc z) z || q z)
    here z =
        let least : nat_le z z ≡ true = grind (arith, nat_tests) in
        let equal : nat_eq z z ≡ true = grind (arith, nat_tests) in
        let above : nat_le (suc z) z ≡ false = grind (arith, nat_tests) in
        rw (least, equal, above)

    at_end : z ≡ n → ((nat_le n z || q z) && implies (nat_eq z n) (q n)) ≡ (nat_le (suc n) z || q z)
    at_end same =
        subst (λ k. ((nat_le k z || q z) && implies (nat_eq z k) (q k)) ≡ (nat_le (suc k) z || q z)) same (here z)

    before : ¬ (z ≡ n) → ((nat_le n z || q z) && implies (nat_eq z n) (q n)) ≡ (nat_le (suc n) z || q z)
    before other =
        let differs : nat_eq z n ≡ false = grind (arith, nat_tests) in
        let same : nat_le n z ≡ nat_le (suc n) z = grind (arith, nat_tests) in
        rw (differs, same) (and-true (nat_le (suc n) z || q z))

one : (n z : ℕ) (q : ℕ → Bool) → all_below n (λ y. implies (nat_eq z y) (q y)) ≡ (nat_le n z || q z)
one zero z q = let least : nat_le 0 z ≡ true = grind (arith, nat_tests) in rw least
one (suc n) z q = ap (λ v. v && implies (nat_eq z n) (q n)) (one n z q) ∙ last n z q

single : (n z : ℕ) (q : ℕ → Bool) (t : Bool)
    → all_below n (λ y. implies (t && nat_eq z y) (q y)) ≡ (if t then nat_le n z || q z else true)
single n z q true = one n z q
single n z q false = all_true n

whole : (n z : ℕ) (q rest : ℕ → Bool) (t : Bool)
    → all_below n (λ y. implies ((t && nat_eq z y) || rest y) (q y))
    ≡ ((if t then nat_le n z || q z else true) && all_below n (λ y. implies (rest y) (q y)))
whole n z q rest t =
    ap (λ (p : ℕ → Bool). all_below n p) (λ i y. either (t && nat_eq z y) (rest y) (q y) i)
    ∙ all_both n (λ y. implies (t && nat_eq z y) (q y)) (λ y. implies (rest y) (q y))
    ∙ ap (λ v. v && all_below n (λ y. implies (rest y) (q y))) (single n z q t)

kept : {X : Type 0} (p : X → Bool) (t : Bool) (l : X) (ls : List X)
    → list_all p (cond t (l ∷ ls) ls) ≡ ((if t then p l else true) && list_all p ls)
kept p true l ls = refl
kept p false l ls = refl

-- what holds of each pair that begins with x, where its end is below n, holds of each successor of x below n
pub row_all : (r x n : ℕ) (q : ℕ → Bool) (ls : List (ℕ × ℕ × ℕ))
    → list_all (λ l. nat_le n l.2 || q l.2) (filter (is_from r x) ls)
    ≡ all_below n (λ y. implies (list_any (is_link r x y) ls) (q y))
row_all r x n q [] = sym (all_true n)
row_all r x n q (l ∷ ls) =
    kept (λ k. nat_le n k.2 || q k.2) (is_from r x l) l (filter (is_from r x) ls)
    ∙ ap (λ v. (if is_from r x l then nat_le n l.2 || q l.2 else true) && v) (row_all r x n q ls)
    ∙ sym (whole n l.2 q (λ y. list_any (is_link r x y) ls) (is_from r x l))

-- the same of the part of a set between two bounds
pub row_all_between : (r x n : ℕ) (q : ℕ → Bool) (ls : List (ℕ × ℕ × ℕ))
    → list_all (λ l. nat_le n l.2 || q l.2) (row_of r x ls)
    ≡ all_below n (λ y. implies (list_any (is_link r x y) ls) (q y))
row_all_between r x n q ls = ap (list_all (λ l. nat_le n l.2 || q l.2)) (row_between r x ls) ∙ row_all r x n q ls
