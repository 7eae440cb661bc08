-- The members of a class, and the links of a role, as parts of a set in order.
use Rattle.std.proofs.Common.{◌≡◌, ℕ, ◌+◌, Bool, List, ap, arith}
use Rattle.std.specs.Prelude.{nat_eq}
use Rattle.std.specs.List.{filter}
use Rattle.std.specs.declared.ops.Bound.TheVariants.{Included, Excluded}
use Rattle.std.specs.BTreeMap.Range.{range_contains}
use Rattle.std.proofs.lemmas.Bool.Decides.{nat_tests}
use Rattle.finite_model.specs.ModelLists.{member_cmp, link_cmp}

member_between : (a : ℕ) (m : ℕ × ℕ)
    → range_contains member_cmp (Included (a, 0)) (Excluded (a + 1, 0)) m ≡ nat_eq m.0 a
member_between a m = grind (arith, nat_tests)

pub members_between : (a : ℕ) (ms : List (ℕ × ℕ))
    → filter (range_contains member_cmp (Included (a, 0)) (Excluded (a + 1, 0))) ms ≡ filter (λ m. nat_eq m.0 a) ms
members_between a ms = ap (λ (p : ℕ × ℕ → Bool). filter p ms) (λ i m. member_between a m i)

link_between : (r : ℕ) (l : ℕ × ℕ × ℕ)
    → range_contains link_cmp (Included (r, 0, 0)) (Excluded (r + 1, 0, 0)) l ≡ nat_eq l.0 r
link_between r l = grind (arith, nat_tests)

pub links_between : (r : ℕ) (ls : List (ℕ × ℕ × ℕ))
    → filter (range_contains link_cmp (Included (r, 0, 0)) (Excluded (r + 1, 0, 0))) ls ≡ filter (λ l. nat_eq l.0 r) ls
links_between r ls = ap (λ (p : ℕ × ℕ × ℕ → Bool). filter p ls) (λ i l. link_between r l i)
