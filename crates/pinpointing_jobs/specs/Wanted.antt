-- Which sets of axioms are wanted, and what a list of them is.
use Rattle.std.specs.Prelude.{◌≡◌, ◌↔◌, ℕ, ◌+◌, ◌<◌, List, length, slice_index_or}
use Rattle.std.specs.List.{Contains}
use Rattle.lane_sieve.specs.Sets.{NumberSet}
use Rattle.axiom_sets.specs.Sets.{Limited}
use Rattle.pinpointing_specs.specs.Smallest.{IsHitAlone}
use Rattle.pinpointing_specs.specs.Order.{IsAscending}
use Rattle.shq_terms.specs.Listed.{Listed}
use Rattle.shq_terms.specs.declared.axioms.Query.{Query as Asked}
use Rattle.pinpointing_specs.specs.LocalModule.{of_axioms, IsRepair}
use Rattle.query_asker.specs.Entry.{Entry}
use Rattle.query_asker.specs.Entries.{nodes_of}
use Rattle.query_asker.specs.HonestLog.{IsJustificationSet}
use Rattle.query_asker.specs.Shown.{ShowsPinpointing}
use Rattle.pinpointing_jobs.specs.Known.{AreKnown}
use Rattle.pinpointing_jobs.specs.declared.wanted.Wanted.{Wanted}
use Rattle.pinpointing_jobs.specs.declared.wanted.Wanted.TheVariants.{Justifications, Repairs}

-- ---- the sets

-- a repair of the query, as a set of axioms of the ontology
pub record IsRepairSet (o : Listed) (q : Asked) (r : Limited) : Type 0 where
  pub limit_is : r.limit ≡ length o.axioms
  pub is_one : IsRepair o.axioms q r.members

-- the set is a justification or a repair, whichever is wanted
abbrev pub IsWanted : Wanted → Listed → Asked → Limited → Type 0
IsWanted Justifications o q s = IsJustificationSet o q s
IsWanted Repairs o q s = IsRepairSet o q s

-- ---- all of them

-- the list has exactly the wanted sets, each once, in the order of sets
pub record HasAll (w : Wanted) (o : Listed) (q : Asked) (sets : List Limited) : Type 0 where
  pub order : IsAscending sets
  pub all : (s : Limited) → Contains sets s ↔ IsWanted w o q s

-- the log shows each justification and each repair, and each repair is one of its nodes
pub record ShowsAll (o : Listed) (q : Asked) (log : List Entry) : Type 0 where
  pub shown : ShowsPinpointing o q log
  pub taken : (r : NumberSet) → IsRepair o.axioms q r → Contains (nodes_of log) (of_axioms o.axioms r)

-- ---- some of them

-- the list has each node but the last one that is a repair of which some label meets each member alone
abbrev pub HasRepairsOf : Listed → Asked → List Limited → List Limited → List Limited → Type 0
HasRepairsOf o q labels nodes sets = (place : ℕ) (d : Limited) → place + 1 < length nodes
    → IsRepairSet o q (slice_index_or nodes place d)
    → IsHitAlone labels (slice_index_or nodes place d) → Contains sets (slice_index_or nodes place d)

-- for some justifications by which the nodes are those of a hitting-set tree, it has the repairs among these nodes
pub record HasKnownRepairs (o : Listed) (q : Asked) (log : List Entry) (sets : List Limited) : Type 0 where
  pub labels : List Limited
  pub justifications : (j : Limited) → Contains labels j → IsJustificationSet o q j
  pub known : AreKnown o q log labels
  pub repairs : HasRepairsOf o q labels (nodes_of log) sets

-- what the log makes known is in the list: the justifications that it shows, by which its nodes are those of a
-- hitting-set tree, or the repairs among the nodes
abbrev pub HasKnown : Wanted → Listed → Asked → List Entry → List Limited → Type 0
HasKnown Justifications o q log sets = AreKnown o q log sets
HasKnown Repairs o q log sets = HasKnownRepairs o q log sets

-- the list has wanted sets alone, each once, in the order of sets, and all that the log makes known
pub record HasSome (w : Wanted) (o : Listed) (q : Asked) (log : List Entry) (sets : List Limited) : Type 0 where
  pub order : IsAscending sets
  pub some : (s : Limited) → Contains sets s → IsWanted w o q s
  pub known : HasKnown w o q log sets
