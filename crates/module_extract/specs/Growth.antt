-- A module that grows.
use Rattle.std.specs.Prelude.{◌≡◌, ℕ, ◌+◌, ◌<◌, Bool, true, false, ◌||◌, List, length, slice_get, Some}
use Rattle.std.specs.List.{Contains, list_any}
use Rattle.std.specs.FinSet as set
use Rattle.lane_sieve.specs.Sets.{NumberSet, IsPart}
use Rattle.shq_terms.specs.declared.axioms.Axiom.{Axiom}
use Rattle.shq_terms.specs.declared.axioms.Numbered.{Numbered}
use Rattle.shq_terms.specs.declared.axioms.Query.{Query}
use Rattle.pinpointing_specs.specs.declared.module_laws.Name.{Name}
use Rattle.pinpointing_specs.specs.Signature.{is_among, axiom_names}
use Rattle.pinpointing_specs.specs.Local.{is_local}
use Rattle.pinpointing_specs.specs.LocalModule.{module_names, IsClosed}
use Rattle.module_extract.specs.declared.marks.Marks.{Marks}
use Rattle.module_extract.specs.Marks.{is_marked, has_place, unmarked, HasMarked}
use Rattle.module_extract.specs.Users.{all_listed}
use Rattle.module_extract.specs.declared.growth.Growth.{Growth}

-- the axiom at a place needs no other look: it is in the module, or local for the names that came in, or has a name
-- that waits
abbrev pub is_settled : Growth → ℕ → Axiom → Bool
is_settled g place a =
    set.contains g.members.members (place + 1) || is_local (is_marked g.marks) a
    || list_any (is_among g.pending.items) (axiom_names a)

-- how many names can come in or wait
abbrev pub room : Growth → ℕ
room g = unmarked g.marks + length g.pending.items

-- the names came in: they are marked, and those that had no mark wait beside those that waited
pub record HasTaken (old new : Marks) (waited waiting : List Name) (names : List Name) : Type 0 where
  pub marks : HasMarked old new names
  pub still_wait : (n : Name) → is_among waited n ≡ true → is_among waiting n ≡ true
  pub fresh_wait : (n : Name) → is_marked new n ≡ true → is_marked old n ≡ false → is_among waiting n ≡ true
  pub same_room : unmarked new + length waiting ≡ unmarked old + length waited

-- the axiom at the place joined the module, and its names came in
pub record HasJoined (old new : Growth) (place : ℕ) (a : Axiom) : Type 0 where
  pub names : HasTaken old.marks new.marks old.pending.items new.pending.items (axiom_names a)
  pub limit : new.members.limit ≡ old.members.limit
  pub members : new.members.members ≡ set.insert old.members.members (place + 1)

-- the axioms are part of each closed set, and the names of the query and of the axioms are those that came in
pub record IsGrowing (axioms : List Numbered) (q : Query) (members : NumberSet) (marks : Marks) : Type 0 where
  pub listed : all_listed (length marks.classes.items) (length marks.roles.items) axioms ≡ true
  pub least : (t : NumberSet) → IsClosed axioms q t → IsPart members t
  pub marked_is_name : (n : Name) → is_marked marks n ≡ true → is_among (module_names axioms q members) n ≡ true
  pub name_is_marked : (n : Name) → is_among (module_names axioms q members) n ≡ true → has_place marks n ≡ true
      → is_marked marks n ≡ true

-- the module grows from the query
abbrev pub GrowsFrom : List Numbered → Query → Growth → Type 0
GrowsFrom axioms q g = IsGrowing axioms q g.members.members g.marks

-- what grew from a query goes on to grow from it
abbrev pub StaysGrowing : List Numbered → Growth → Growth → Type 0
StaysGrowing axioms old new = (q : Query) → GrowsFrom axioms q old → GrowsFrom axioms q new

-- the axioms at these places were looked at: they are settled, and what was settled stays so
pub record HasLooked (axioms : List Numbered) (old new : Growth) (places : List ℕ) : Type 0 where
  pub limit : new.members.limit ≡ old.members.limit
  pub growing : StaysGrowing axioms old new
  pub stays : (place : ℕ) (a : Axiom) → is_settled old place a ≡ true → is_settled new place a ≡ true
  pub settled : (place : ℕ) (a : Numbered) → Contains places place → slice_get axioms place ≡ Some a
      → is_settled new place a.axiom ≡ true
  pub same_room : room new ≡ room old

-- the first axioms, up to a count, are settled
abbrev pub FirstSettled : List Numbered → ℕ → Growth → Type 0
FirstSettled axioms count g = (place : ℕ) (a : Numbered) → place < count → slice_get axioms place ≡ Some a
    → is_settled g place a.axiom ≡ true

-- all axioms are settled
abbrev pub AllSettled : List Numbered → Growth → Type 0
AllSettled axioms g = FirstSettled axioms (length axioms) g
