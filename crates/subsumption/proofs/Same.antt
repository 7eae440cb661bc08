-- Relations that agree on all numbers have the same groups.
use Rattle.std.proofs.Common.{◌≡◌, ℕ, ◌+◌, ◌<◌, ◌≤◌, ◌&&◌, not, Bool, eqb, ap, arith}
use Rattle.subsumption.specs.Groups.{Parthood, is_empty, holds_all, is_between, is_equal, is_first, holds_no_other}
use Rattle.subsumption.specs.Groups.{is_lowest}
use Rattle.subsumption.proofs.Passing.{all_below_same}

module _ (count : ℕ) (r s : Parthood) (agree : (x y : ℕ) → x ≤ count + 1 → y ≤ count + 1 → r x y ≡ s x y) where
  pub empty_same : (x : ℕ) → x < count → is_empty count r x ≡ is_empty count s x
  empty_same x lt = agree x (count + 1) (omega arith) (omega arith)

  pub all_same : (x : ℕ) → x < count → holds_all count r x ≡ holds_all count s x
  all_same x lt = agree count x (omega arith) (omega arith)

  between_same : (x : ℕ) → x < count → is_between count r x ≡ is_between count s x
  between_same x lt = λ i. not (empty_same x lt i) && not (all_same x lt i)

  pub equal_same : (x y : ℕ) → x < count → y < count → is_equal count r x y ≡ is_equal count s x y
  equal_same x y lx ly =
      λ i. between_same y ly i && (agree x y (omega arith) (omega arith) i && agree y x (omega arith) (omega arith) i)

  pub first_same : (x : ℕ) → x < count → is_first count r x ≡ is_first count s x
  first_same x lt =
      let rest =
      all_below_same x (λ y. not (is_equal count r x y)) (λ y. not (is_equal count s x y))
      (λ y less. ap not (equal_same x y lt (omega arith))) in
      λ i. between_same x lt i && rest i

  -- and of classes that pass tests which agree the same are the lowest
  pub no_other_same : (test test' : ℕ → Bool) → ((x : ℕ) → x < count → test x ≡ test' x) → (p : ℕ) → p < count
      → holds_no_other count r test p ≡ holds_no_other count s test' p
  no_other_same test test' same p lp =
      all_below_same count (λ q. not (test q && (not (eqb q p) && r q p)))
      (λ q. not (test' q && (not (eqb q p) && s q p)))
      (λ q lq i. not (same q lq i && (not (eqb q p) && agree q p (omega arith) (omega arith) i)))

  pub lowest_same : (test test' : ℕ → Bool) → ((x : ℕ) → x < count → test x ≡ test' x) → (p : ℕ) → p < count
      → is_lowest count r test p ≡ is_lowest count s test' p
  lowest_same test test' same p lp = λ i. same p lp i && no_other_same test test' same p lp i
