-- In the world of a finite interpretation there are as many members with a property as elements are counted.
use Rattle.std.proofs.Common.{◌≡◌, ℕ, zero, suc, ◌+◌, ◌<◌, ◌≤◌, Bool, true, false, not, cond, eqb, List, [], ◌∷◌}
use Rattle.std.proofs.Common.{length, get_or, refl, ap, sym, arith}
use Rattle.std.specs.Prelude.{◌↔◌, All}
use Rattle.std.specs.List.{AllPairs}
use Rattle.std.proofs.Props.{props}
use Rattle.std.proofs.lemmas.Bool.{and_from, ne_eqb}
use Rattle.std.proofs.lemmas.List.Elements.{All-nil, All-cons, All-head, All-tail, All-weaker}
use Rattle.std.proofs.lemmas.List.Kept.{AllPairs-cons}
use mathlib.Core.HLevel.{is_prop→PathP}
use Rattle.shq_nnf.specs.Below.{all_below, count_below}
use Rattle.refutation_truth.proofs.Below.{all_at, all_from, but, count_but}
use Rattle.all_worlds.specs.Worlds.{AreMany}
use Rattle.all_worlds.specs.Finite.{Element}
use Rattle.all_worlds.proofs.Lists.{pairs_head, pairs_tail, no_pairs}

module _ (size : ℕ) where
  pub same_element : (x y : Element size) → x.number ≡ y.number → x ≡ y
  same_element x y e =
      λ i. record { number = e i; below = is_prop→PathP (λ j. e j < size) (λ j. hlevel props) x.below y.below i }

  abbrev pub Differ : Element size → Element size → Type 0
  Differ x y = ¬ (x ≡ y)

  -- ---- a test of all

  pub each_passes : (p : ℕ → Bool) (P : Element size → Type 0) → ((x : Element size) → P x ↔ (p x.number ≡ true))
      → ((x : Element size) → P x) ↔ (all_below size p ≡ true)
  each_passes p P is = (
    λ h. all_from size p (λ y lt. let x : Element size = record { number = y; below = lt } in (is x).0 (h x)),
    λ h x. (is x).1 (all_at size p x.number h x.below),
  )

  -- ---- counts

  module _ (p : ℕ → Bool) (P : Element size → Type 0) (is : (x : Element size) → P x ↔ (p x.number ≡ true)) where
    -- n different elements below m
    record Listed (m n : ℕ) : Type 0 where
      items : List (Element size)
      many : AreMany P n items
      under : All (λ x. x.number < m) items

    none_listed : (m n : ℕ) → n ≤ 0 → Listed m n
    none_listed m n le = record {
      items = [];
      many = record { count = omega arith; distinct = no_pairs Differ; each = All-nil P };
      under = All-nil (λ x. x.number < m);
    }

    still_listed : (m n : ℕ) → Listed m n → Listed (suc m) n
    still_listed m n l = record {
      items = l.items;
      many = l.many;
      under = All-weaker (λ x. x.number < m) (λ x. x.number < suc m) (λ x lt. omega arith) l.items l.under;
    }

    one_more : (m n : ℕ) → m < size → p m ≡ true → Listed m n → Listed (suc m) (suc n)
    one_more m n lt passes l =
        let x : Element size = record { number = m; below = lt } in
        let last : m < suc m = omega arith in
        let differ =
        All-weaker (λ y. y.number < m) (Differ x)
        (λ y less same. let e : m ≡ y.number = ap (λ (z : Element size). z.number) same in omega (arith, e, less))
        l.items l.under in
        record {
          items = x ∷ l.items;
          many = record {
            count = omega (arith, l.many.count);
            distinct = AllPairs-cons Differ x l.items differ l.many.distinct;
            each = All-cons P x l.items ((is x).1 passes) l.many.each;
          };
          under = All-cons (λ y. y.number < suc m) x l.items last
              (All-weaker (λ y. y.number < m) (λ y. y.number < suc m) (λ y less. omega arith) l.items l.under);
        }

    listed_by : (m n : ℕ) → m < size → (b : Bool) → p m ≡ b → n ≤ count_below m p + cond b 1 0
        → ((k : ℕ) → k ≤ count_below m p → Listed m k) → Listed (suc m) n
    listed_by m n lt false e le rest = still_listed m n (rest n (omega arith))
    listed_by m zero lt true e le rest = none_listed (suc m) 0 (omega arith)
    listed_by m (suc n) lt true e le rest = one_more m n lt e (rest n (omega arith))

    listed : (m n : ℕ) → m ≤ size → n ≤ count_below m p → Listed m n
    listed zero n under le = none_listed 0 n (omega arith)
    listed (suc m) n under le =
        listed_by m n (omega arith) (p m) refl le (λ k least. listed m k (omega arith) least)

  -- different elements that pass are at most as many as are counted
  are_counted : (p : ℕ → Bool) (xs : List (Element size)) → AllPairs Differ xs → All (λ x. p x.number ≡ true) xs
      → length xs ≤ count_below size p
  are_counted p [] apart pass = omega arith
  are_counted p (x ∷ xs) apart pass =
      let others = pairs_head Differ x xs apart in
      let rest = All-tail (λ y. p y.number ≡ true) x xs pass in
      let passes : All (λ y. but p x.number y.number ≡ true) xs =
      λ k y lt.
      let z : Element size = get_or xs k y in
      and_from (p z.number) (not (eqb z.number x.number)) (rest k y lt)
      (ap not (ne_eqb z.number x.number (λ e. others k y lt (same_element x z (sym e))))) in
      let fewer = are_counted (but p x.number) xs (pairs_tail Differ x xs apart) passes in
      let one = count_but size p x.number x.below (All-head (λ y. p y.number ≡ true) x xs pass) in
      omega (arith, fewer, one)

  module _ (p : ℕ → Bool) (P : Element size → Type 0) (is : (x : Element size) → P x ↔ (p x.number ≡ true)) where
    -- there are n exactly where n are counted
    pub many_from : (n : ℕ) → n ≤ count_below size p → ¬ ((xs : List (Element size)) → ¬ AreMany P n xs)
    many_from n le none = let l = listed p P is size n (omega arith) le in none l.items l.many

    pub counted_from : (n : ℕ) (xs : List (Element size)) → AreMany P n xs → n ≤ count_below size p
    counted_from n xs many =
        let le = are_counted p xs many.distinct (All-weaker P (λ x. p x.number ≡ true) (λ x. (is x).0) xs many.each) in
        omega (arith, le, many.count)
