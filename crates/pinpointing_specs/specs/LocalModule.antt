-- The local module of a query in numbered axioms, and what follows from some of these.
use Rattle.std.specs.Prelude.{◌≡◌, ℕ, ◌+◌, true, false, Some, List, [], ◌∷◌, ◌++◌, length, slice_get, if◌then◌else◌}
use Rattle.std.specs.List.{flat_map}
use Rattle.std.specs.FinSet as set
use Rattle.axiom_sets.specs.NumberSets.{NumberSet, IsPart}
use Rattle.axiom_sets.specs.Sets.{Limited, IsWithin}
use Rattle.pinpointing_specs.specs.Smallest.{IsMinimalYes, IsMinimalRemoval}
use Rattle.shq_meaning.specs.Axiom.{Axiom}
use Rattle.shq_meaning.specs.Numbered.{Numbered}
use Rattle.shq_meaning.specs.Query.{Query}
use Rattle.shq_meaning.specs.Truth.{Entails}
use Rattle.pinpointing_specs.specs.declared.module_laws.Name.{Name}
use Rattle.pinpointing_specs.specs.Signature.{is_among, axiom_names, query_names}
use Rattle.pinpointing_specs.specs.Local.{is_local}

-- those of the axioms, numbered from k on, whose numbers are in the set
abbrev pub axioms_from : ℕ → NumberSet → List Numbered → List Axiom
axioms_from k s [] = []
axioms_from k s (a ∷ as_) = if set.contains s k then a.axiom ∷ axioms_from (k + 1) s as_ else axioms_from (k + 1) s as_

-- those of the axioms, numbered from 1 on, whose numbers are in the set
abbrev pub axioms_in_set : NumberSet → List Numbered → List Axiom
axioms_in_set s axioms = axioms_from 1 s axioms

-- the names of the query and of the axioms in the set
abbrev pub module_names : List Numbered → Query → NumberSet → List Name
module_names axioms q s = query_names q ++ flat_map axiom_names (axioms_in_set s axioms)

-- each axiom that is not local for the names of the query and of the axioms in the set is in the set
abbrev pub IsClosed : List Numbered → Query → NumberSet → Type 0
IsClosed axioms q s = (place : ℕ) (a : Numbered) → slice_get axioms place ≡ Some a
    → is_local (is_among (module_names axioms q s)) a.axiom ≡ false → set.contains s (place + 1) ≡ true

-- the least closed set of axioms
pub record IsLocalModule (axioms : List Numbered) (q : Query) (s : NumberSet) : Type 0 where
  pub within : IsWithin (length axioms) s
  pub closed : IsClosed axioms q s
  pub least : (t : NumberSet) → IsClosed axioms q t → IsPart s t

-- the query follows from the axioms in the set
abbrev pub FollowsFrom : List Numbered → Query → NumberSet → Type 0
FollowsFrom axioms q s = Entails (axioms_in_set s axioms) q

-- the numbers in the set, as numbers of the axioms
abbrev pub of_axioms : List Numbered → NumberSet → Limited
of_axioms axioms s = record { limit = length axioms; members = s }

-- the query follows from the axioms in the set, and no more as soon as one of them is left out
abbrev pub IsJustification : List Numbered → Query → NumberSet → Type 0
IsJustification axioms q s = IsMinimalYes (FollowsFrom axioms q) (of_axioms axioms s)

-- the query does not follow from the axioms outside the set, and does as soon as one of the set is given back
abbrev pub IsRepair : List Numbered → Query → NumberSet → Type 0
IsRepair axioms q s = IsMinimalRemoval (FollowsFrom axioms q) (of_axioms axioms s)
