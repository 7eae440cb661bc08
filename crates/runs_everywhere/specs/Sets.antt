-- Justifications and repairs by what follows in a world, and in that of each finite interpretation.
use Rattle.std.specs.Prelude.{◌≡◌, ◌↔◌, List, length}
use Rattle.std.specs.List.{Contains}
use Rattle.lane_sieve.specs.Sets.{NumberSet}
use Rattle.axiom_sets.specs.Sets.{Limited}
use Rattle.pinpointing_specs.specs.LocalModule.{axioms_in_set, of_axioms}
use Rattle.pinpointing_specs.specs.Order.{IsAscending}
use Rattle.pinpointing_specs.specs.Smallest.{IsMinimalYes, IsMinimalRemoval}
use Rattle.shq_terms.specs.Listed.{Listed}
use Rattle.shq_terms.specs.declared.axioms.Numbered.{Numbered}
use Rattle.shq_terms.specs.declared.axioms.Query.{Query as Asked}
use Rattle.all_worlds.specs.Worlds.{World}
use Rattle.search_starts.specs.Laws.{FollowsInAll}
use Rattle.audit_jobs.specs.AuditLists.{AuditLists, justified_sets, repaired_sets}
use Rattle.pinpointing_jobs.specs.declared.wanted.Wanted.{Wanted}
use Rattle.pinpointing_jobs.specs.declared.wanted.Wanted.TheVariants.{Justifications, Repairs}

-- the query follows from the axioms in the set
abbrev pub FollowsFromIn : {d : Type 0} → World d → List Numbered → Asked → NumberSet → Type 0
FollowsFromIn w axioms q s = FollowsInAll w (axioms_in_set s axioms) q

-- it follows from the axioms in the set, and no more as soon as one of them is left out
abbrev pub IsJustificationIn : {d : Type 0} → World d → List Numbered → Asked → NumberSet → Type 0
IsJustificationIn w axioms q s = IsMinimalYes (FollowsFromIn w axioms q) (of_axioms axioms s)

-- it does not follow from the axioms outside the set, and does as soon as one of the set is given back
abbrev pub IsRepairIn : {d : Type 0} → World d → List Numbered → Asked → NumberSet → Type 0
IsRepairIn w axioms q s = IsMinimalRemoval (FollowsFromIn w axioms q) (of_axioms axioms s)

-- the set is a justification or a repair, whichever is wanted
abbrev pub IsWantedIn : {d : Type 0} → World d → Wanted → List Numbered → Asked → NumberSet → Type 0
IsWantedIn w Justifications axioms q s = IsJustificationIn w axioms q s
IsWantedIn w Repairs axioms q s = IsRepairIn w axioms q s

-- a wanted set, as one of axioms of the ontology
pub record IsWantedSetIn {d : Type 0} (w : World d) (wanted : Wanted) (o : Listed) (q : Asked) (s : Limited) : Type 0
  where
    pub limit_is : s.limit ≡ length o.axioms
    pub is_one : IsWantedIn w wanted o.axioms q s.members

-- the list has exactly the wanted sets, each once, in the order of sets
pub record HasAllIn {d : Type 0} (w : World d) (wanted : Wanted) (o : Listed) (q : Asked) (sets : List Limited) : Type 0
  where
    pub order : IsAscending sets
    pub all : (s : Limited) → Contains sets s ↔ IsWantedSetIn w wanted o q s

-- the list has wanted sets alone, each once, in the order of sets
pub record HasSomeIn {d : Type 0} (w : World d) (wanted : Wanted) (o : Listed) (q : Asked) (sets : List Limited) :
    Type 0 where
  pub order : IsAscending sets
  pub some : (s : Limited) → Contains sets s → IsWantedSetIn w wanted o q s

-- the lists of an audit are exactly all justifications of the query and all its repairs
pub record ListsAllIn {d : Type 0} (w : World d) (o : Listed) (q : Asked) (a : AuditLists) : Type 0 where
  pub justifications : (s : Limited) → s.limit ≡ length o.axioms
      → (Contains (justified_sets a.justifications) s ↔ IsJustificationIn w o.axioms q s.members)
  pub repairs : (r : Limited) → r.limit ≡ length o.axioms
      → (Contains (repaired_sets a.repairs) r ↔ IsRepairIn w o.axioms q r.members)
