-- Which of all sets that were put are kept.
use Rattle.std.specs.Prelude.{◌≡◌, ◌⊎◌, ℕ, ◌<◌, List, [], ◌∷◌, ◌++◌, length, slice_index_or}
use Rattle.std.specs.List.{Contains}
use Rattle.lane_sieve.specs.Sets.{NumberSet, IsPart}
use Rattle.pinpointing_specs.specs.Sets.{Limited}
use Rattle.set_questions.specs.declared.antichain.Antichain.{Antichain}
use Rattle.set_questions.specs.declared.antichain.Kind.{Kind}
use Rattle.set_questions.specs.declared.antichain.Kind.TheVariants.{Minimal, Maximal}

-- what an antichain shows: whether it keeps the minimal or the maximal sets, and the sets that it keeps
abbrev pub kind_of : Antichain → Kind
kind_of chain = chain.kind

-- the sets that are kept
abbrev pub kept_sets : Antichain → List Limited
kept_sets chain = chain.sets.items

-- beside s, t is not kept
abbrev pub Outranks : Kind → NumberSet → NumberSet → Type 0
Outranks Minimal s t = IsPart s t
Outranks Maximal s t = IsPart t s

-- none outranks another
abbrev pub AreApart : Kind → List Limited → Type 0
AreApart kind kept = (i j : ℕ) (d : Limited) → i < length kept → j < length kept → ¬ (i ≡ j)
    → ¬ Outranks kind (slice_index_or kept i d).members (slice_index_or kept j d).members

-- some listed set outranks s
abbrev pub HasAbove : Kind → List Limited → Limited → Type 0
HasAbove kind sets s = (t : Limited) × Contains sets t × Outranks kind t.members s.members

-- the kept sets are those of all sets that no other one outranks, each once
pub record AreKept (kind : Kind) (all kept : List Limited) : Type 0 where
  pub from : (s : Limited) → Contains kept s → Contains all s
  pub above : (s : Limited) → Contains all s → HasAbove kind kept s
  pub apart : AreApart kind kept

-- whatever all sets were before, the new list has those to be kept of these and of s
abbrev pub KeepsWith : Kind → Limited → List Limited → List Limited → Type 0
KeepsWith kind s old new = (all : List Limited) → AreKept kind all old → AreKept kind (all ++ s ∷ []) new

-- of a list those are left that s does not outrank
pub record IsDropped (kind : Kind) (s : Limited) (old new : List Limited) : Type 0 where
  pub from : (x : Limited) → Contains new x → Contains old x
  pub kept : (x : Limited) → Contains old x → Outranks kind s.members x.members ⊎ Contains new x
  pub beside : (i : ℕ) (d : Limited) → i < length new → ¬ Outranks kind s.members (slice_index_or new i d).members
  pub apart : AreApart kind old → AreApart kind new
