-- What stands after a name was added, or was not.
use Rattle.std.proofs.Common.{◌≡◌, ℕ, ◌≤◌, List, length, max, Result, Ok, Err, sym, subst, ap, arith}
use Rattle.std.specs.Prelude.{OnOk, OnErr}
use Rattle.shq_terms.specs.Names.{with_name}
use Rattle.shq_terms.specs.Distinct.{AreDistinct}
use Rattle.shq_terms.proofs.Uses.{with_name_longer}
use Rattle.shq_terms.proofs.Distinct.{with_name_distinct}

module _ {E : Type 0} (old new : List (List ℕ)) (w : List ℕ) where
  pub added_distinct : (r : Result ℕ E) → OnOk r (new ≡ with_name old w) → OnErr r (new ≡ old) → AreDistinct old
      → AreDistinct new
  added_distinct (Ok k) added same distinct = subst AreDistinct (sym added) (with_name_distinct old w distinct)
  added_distinct (Err e) added same distinct = subst AreDistinct (sym same) distinct

  pub added_longer : (r : Result ℕ E) → OnOk r (new ≡ with_name old w) → OnErr r (new ≡ old) → length old ≤ length new
  added_longer (Ok k) added same = let e = ap length added in omega (arith, with_name_longer old w)
  added_longer (Err e) added same = let f = ap length same in omega arith

  pub added_within : (limit : ℕ) (r : Result ℕ E) → OnOk r (length new ≤ max limit (length old)) → OnErr r (new ≡ old)
      → length old ≤ limit → length new ≤ limit
  added_within limit (Ok k) room same within = omega arith
  added_within limit (Err e) room same within = let f = ap length same in omega arith
