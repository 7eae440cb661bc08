-- Cached rows serve while the table grows, and a row that is stored takes the place of that of its part alone.
use Rattle.std.proofs.Common.{◌≡◌, ℕ, ◌&&◌, Bool, true, false, cond, List, Option, Some, None, Result, Ok, Err, refl}
use Rattle.std.proofs.Common.{subst, sym, ◌∙◌}
use Rattle.std.specs.Prelude.{nat_eq, OnOk, OnErr}
use Rattle.std.proofs.lemmas.Bool.{and_parts, eqb-true}
use Rattle.indexmap.specs.IndexMap.{IndexMap, IsUnchanged, Updates}
use Rattle.refutation_truth.specs.Numbered.{Numbered}
use Rattle.refutation_truth.specs.TheoryRows.{part_at}
use Rattle.axiom_sets.specs.Sets.{Limited, member_list}
use Rattle.refutation_truth.specs.Theory.{theory_of}
use Rattle.refutation_truth.specs.Shape.{Shape}
use Rattle.refutation_truth.specs.Numbers.{Extends}
use Rattle.refutation_truth.proofs.Numbers.{number_stays, numbers_stay}
use Rattle.row_cache.specs.declared.cached_row.CachedRow.{CachedRow}
use Rattle.row_cache.specs.declared.cached_row.CachedRange.{CachedRange}
use Rattle.row_cache.specs.declared.cache_entry.CacheEntry.{CacheEntry}
use Rattle.row_cache.specs.Rows.{PlainRow, PlainRange, row_for, IsRow, range_for, IsRange}
use Rattle.row_cache.specs.Cache.{entry_for, cached_range_for, IsRowCache}

-- ---- a longer table

pub row_stays : (a b : List Shape) → Extends a b → (o : Option PlainRow) (r : Option CachedRow) → IsRow a o r
    → IsRow b o r
row_stays a b e None None is = tt
row_stays a b e None (Some k) is = absurd is
row_stays a b e (Some r) None is = absurd is
row_stays a b e (Some r) (Some k) is =
    (numbers_stay a b k.premises r.premises e is.0, number_stays a b k.concept r.concept e is.1)

pub range_stays : (a b : List Shape) → Extends a b → (o : Option PlainRange) (r : Option CachedRange) → IsRange a o r
    → IsRange b o r
range_stays a b e None None is = tt
range_stays a b e None (Some k) is = absurd is
range_stays a b e (Some r) None is = absurd is
range_stays a b e (Some r) (Some k) is = (is.0, number_stays a b k.concept r.concept e is.1)

pub table_stays : (axioms : List Numbered) (named : Limited) (t u : List Shape) (rows : List ((ℕ × ℕ) × CacheEntry))
    (ranges : List (ℕ × CachedRange))
    → Extends t u → IsRowCache axioms named t rows ranges → IsRowCache axioms named u rows ranges
table_stays axioms named t u rows ranges e is =
    let part = part_at (theory_of axioms (member_list named)) in
    record {
      numbers = is.numbers;
      within = is.within;
      current = record {
        rows_are =
            λ a p k at. row_stays t u e (row_for (part a p) k.positions) (Some k.row) (is.current.rows_are a p k at);
        ranges_are = λ a r at. range_stays t u e (range_for (part a 1)) (Some r) (is.current.ranges_are a r at);
      };
    }

-- ---- one row more

module _ {S X E : Type 0} (axioms : List Numbered) (named : Limited) (t : List Shape) (a : ℕ) where
  pub row_stored : (old new : IndexMap (ℕ × ℕ) CacheEntry S) (ranges : List (ℕ × CachedRange)) (p : ℕ) (k : CacheEntry)
      (result : Result X E)
      → OnOk result (Updates (λ l m. nat_eq l.0 m.0 && nat_eq l.1 m.1) old new (a, p) (Some k))
      → OnErr result (IsUnchanged old new)
      → IsRow t (row_for (part_at (theory_of axioms (member_list named)) a p) k.positions) (Some k.row)
      → IsRowCache axioms named t old.entries ranges → IsRowCache axioms named t new.entries ranges
  row_stored old new ranges p k (Err e) updates same row is =
      subst (λ es. IsRowCache axioms named t es ranges) (sym same) is
  row_stored old new ranges p k (Ok x) updates same row is = record {
    numbers = is.numbers;
    within = is.within;
    current = record { rows_are = each; ranges_are = is.current.ranges_are };
  }
    where
      each : (b q : ℕ) (m : CacheEntry) → entry_for new.entries b q ≡ Some m
          → IsRow t (row_for (part_at (theory_of axioms (member_list named)) b q) m.positions) (Some m.row)
      each b q m at = by (nat_eq a b && nat_eq p q) refl (sym (updates.0 (b, q)) ∙ at)
        where
          by : (c : Bool) → (nat_eq a b && nat_eq p q) ≡ c → cond c (Some k) (entry_for old.entries b q) ≡ Some m
              → IsRow t (row_for (part_at (theory_of axioms (member_list named)) b q) m.positions) (Some m.row)
          by false other here = is.current.rows_are b q m here
          by true equal here =
              let both = and_parts (nat_eq a b) (nat_eq p q) equal in
              let first : a ≡ b = eqb-true a b both.0 in
              let second : p ≡ q = eqb-true p q both.1 in
              let last : k ≡ m = cc here in
              subst (λ (l : CacheEntry). IsRow t
              (row_for (part_at (theory_of axioms (member_list named)) b q) l.positions) (Some l.row))
              last
              (subst (λ (d : ℕ). IsRow t (row_for (part_at (theory_of axioms (member_list named)) b d) k.positions)
              (Some k.row))
              second
              (subst (λ (d : ℕ). IsRow t (row_for (part_at (theory_of axioms (member_list named)) d p) k.positions)
              (Some k.row))
              first row))

  pub range_stored : (old new : IndexMap ℕ CachedRange S) (rows : List ((ℕ × ℕ) × CacheEntry)) (r : CachedRange)
      (result : Result X E)
      → OnOk result (Updates nat_eq old new a (Some r)) → OnErr result (IsUnchanged old new)
      → IsRange t (range_for (part_at (theory_of axioms (member_list named)) a 1)) (Some r)
      → IsRowCache axioms named t rows old.entries → IsRowCache axioms named t rows new.entries
  range_stored old new rows r (Err e) updates same range is =
      subst (λ es. IsRowCache axioms named t rows es) (sym same) is
  range_stored old new rows r (Ok x) updates same range is = record {
    numbers = is.numbers;
    within = is.within;
    current = record { rows_are = is.current.rows_are; ranges_are = each };
  }
    where
      each : (b : ℕ) (m : CachedRange) → cached_range_for new.entries b ≡ Some m
          → IsRange t (range_for (part_at (theory_of axioms (member_list named)) b 1)) (Some m)
      each b m at = by (nat_eq a b) refl (sym (updates.0 b) ∙ at)
        where
          by : (c : Bool) → nat_eq a b ≡ c → cond c (Some r) (cached_range_for old.entries b) ≡ Some m
              → IsRange t (range_for (part_at (theory_of axioms (member_list named)) b 1)) (Some m)
          by false other here = is.current.ranges_are b m here
          by true equal here =
              let first : a ≡ b = eqb-true a b equal in
              let last : r ≡ m = cc here in
              subst
              (λ (l : CachedRange). IsRange t (range_for (part_at (theory_of axioms (member_list named)) b 1)) (Some l))
              last
              (subst (λ (d : ℕ). IsRange t (range_for (part_at (theory_of axioms (member_list named)) d 1)) (Some r))
              first range)
