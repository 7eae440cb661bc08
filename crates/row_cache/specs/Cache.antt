-- The rows that are cached with a table of concepts.
use Rattle.std.specs.Prelude.{◌≡◌, ℕ, ◌-◌, ◌&&◌, nat_eq, true, false, IsTrue, List, [], length, Option, Some, None}
use Rattle.std.specs.Prelude.{slice_get, if◌then◌else◌}
use Rattle.std.specs.Cmp.Lexicographic.{pointwise}
use Rattle.std.specs.Map.{lookup}
use denote.Ref.{Bor}
use Rattle.indexmap.specs.IndexMap.{IndexMap, Updates}
use Rattle.refutation_truth.specs.Numbered.{Numbered}
use Rattle.refutation_truth.specs.Shape.{Shape}
use Rattle.refutation_truth.specs.TheoryRows.{Part, part_at, is_among}
use Rattle.axiom_sets.specs.Sets.{Limited, IsWithin, member_list}
use Rattle.refutation_truth.specs.Theory.{theory_of}
use Rattle.refutation_truth.specs.Parts.{axiom_has_counts_within}
use Rattle.row_cache.specs.Rows.{AreInLimit, row_for, IsRow, range_for, IsRange}
use Rattle.row_cache.specs.declared.cached_row.CachedRow.{CachedRow}
use Rattle.row_cache.specs.declared.cached_row.CachedRange.{CachedRange}
use Rattle.row_cache.specs.declared.cache_entry.CacheEntry.{CacheEntry}

-- the axioms, the numbers of those that are named, the table whose numbers rows are made of, and the rows that are
-- cached: of parts, by the numbers of their axioms and themselves, and of range axioms
pub record CacheState : Type 0 where
  pub axioms : List Numbered
  pub named : List ℕ
  pub table : List Shape
  pub rows : List ((ℕ × ℕ) × CacheEntry)
  pub ranges : List (ℕ × CachedRange)

-- no row is cached yet
abbrev pub empty_cache : List Numbered → List ℕ → List Shape → CacheState
empty_cache axioms named table = record { axioms = axioms; named = named; table = table; rows = []; ranges = [] }

-- the part of a named axiom
abbrev pub named_part : CacheState → ℕ → ℕ → Option Part
named_part c a p = part_at (theory_of c.axioms c.named) a p

-- the axiom of a number, whose cardinalities are within the limit; none where it is not named
abbrev pub IsNamedAxiom : List Numbered → List ℕ → ℕ → Option (Bor Numbered) → Type 0
IsNamedAxiom axioms ks a None = is_among ks a ≡ false
IsNamedAxiom axioms ks a (Some n) = (is_among ks a ≡ true) × (slice_get axioms (a - 1) ≡ Some n.now)
    × IsTrue (axiom_has_counts_within 100 n.now.axiom)

-- the axioms and those that are named stay
pub record HasSameAxioms (earlier later : CacheState) : Type 0 where
  pub axioms : later.axioms ≡ earlier.axioms
  pub named : later.named ≡ earlier.named

-- the rows that are cached stay
pub record KeepsEntries (earlier later : CacheState) : Type 0 where
  pub rows : later.rows ≡ earlier.rows
  pub ranges : later.ranges ≡ earlier.ranges

-- the row of a named axiom's part for some positions, and that of a named range axiom
abbrev pub IsRowOf : CacheState → ℕ → ℕ → List ℕ → Option CachedRow → Type 0
IsRowOf c a p positions row = IsRow c.table (row_for (named_part c a p) positions) row

-- the range is that of the axiom, or the axiom has none
abbrev pub IsRangeOf : CacheState → ℕ → Option CachedRange → Type 0
IsRangeOf c a row = IsRange c.table (range_for (named_part c a 1)) row

-- ---- what is cached

-- the row of a part with the positions for which it was made, by the numbers of its axiom and itself
abbrev pub entry_for : List ((ℕ × ℕ) × CacheEntry) → ℕ → ℕ → Option CacheEntry
entry_for rows a p = lookup (λ k. nat_eq a k.0 && nat_eq p k.1) rows

-- the row of a range axiom
abbrev pub cached_range_for : List (ℕ × CachedRange) → ℕ → Option CachedRange
cached_range_for ranges a = lookup (nat_eq a) ranges

-- a row serves the positions for which it was made, and no others
abbrev pub serving : Option CacheEntry → List ℕ → Option CachedRow
serving None positions = None
serving (Some e) positions = if pointwise nat_eq e.positions positions then Some e.row else None

-- the row that need not be made
abbrev pub cached_row : CacheState → ℕ → ℕ → List ℕ → Option CachedRow
cached_row c a p positions = serving (entry_for c.rows a p) positions

-- the range of an axiom that is in the cache, if it is
abbrev pub cached_range : CacheState → ℕ → Option CachedRange
cached_range c a = cached_range_for c.ranges a

-- a row that was answered is cached
abbrev pub IsCached : CacheState → ℕ → ℕ → List ℕ → Option CachedRow → Type 0
IsCached c a p positions answer = (r : CachedRow) → answer ≡ Some r → cached_row c a p positions ≡ Some r

-- a range that was answered is in the cache
abbrev pub IsRangeCached : CacheState → ℕ → Option CachedRange → Type 0
IsRangeCached c a answer = (r : CachedRange) → answer ≡ Some r → cached_range c a ≡ Some r

-- a cached row is answered, and then nothing is made; and what is answered is cached afterwards
pub record IsMadeOnce (earlier later : CacheState) (a p : ℕ) (positions : List ℕ) (answer : Option CachedRow) :
    Type 0 where
  pub from_cache : (r : CachedRow) → cached_row earlier a p positions ≡ Some r → (later ≡ earlier) × (answer ≡ Some r)
  pub afterwards : IsCached later a p positions answer

-- a range that is in the cache is answered from it, and one that is answered is in it afterwards
pub record IsRangeMadeOnce (earlier later : CacheState) (a : ℕ) (answer : Option CachedRange) : Type 0 where
  pub from_cache : (r : CachedRange) → cached_range earlier a ≡ Some r → (later ≡ earlier) × (answer ≡ Some r)
  pub afterwards : IsRangeCached later a answer

-- each cached row is that of its part for its positions, by the table as it is now
pub record AreCurrent (c : CacheState) : Type 0 where
  pub rows_are : (a p : ℕ) (e : CacheEntry) → entry_for c.rows a p ≡ Some e → IsRowOf c a p e.positions (Some e.row)
  pub ranges_are : (a : ℕ) (r : CachedRange) → cached_range_for c.ranges a ≡ Some r → IsRangeOf c a (Some r)

-- a table of the axioms of an ontology, by a set of numbers of these
pub record IsRowCache (axioms : List Numbered) (named : Limited) (table : List Shape)
    (rows : List ((ℕ × ℕ) × CacheEntry)) (ranges : List (ℕ × CachedRange)) : Type 0 where
  pub numbers : IsWithin (length axioms) named.members
  pub within : AreInLimit axioms
  pub current : AreCurrent
      (record { axioms = axioms; named = member_list named; table = table; rows = rows; ranges = ranges })

-- the row takes the place of what was cached for the part
abbrev pub StoresRow : {S : Type 0} → IndexMap (ℕ × ℕ) CacheEntry S → IndexMap (ℕ × ℕ) CacheEntry S → ℕ → ℕ → List ℕ
    → CachedRow → Type 0
StoresRow old new a p positions row = Updates (λ k l. nat_eq k.0 l.0 && nat_eq k.1 l.1) old new (a, p)
    (Some (record { positions = positions; row = row }))
