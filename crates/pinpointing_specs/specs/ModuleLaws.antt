-- What local modules are good for.
use Rattle.std.specs.Prelude.{◌≡◌, ◌↔◌, List}
use Rattle.std.specs.FinSet as set
use Rattle.axiom_sets.specs.NumberSets.{NumberSet, IsPart}
use Rattle.pinpointing_specs.specs.Smallest.{Grows}
use Rattle.shq_meaning.specs.Numbered.{Numbered}
use Rattle.shq_meaning.specs.Query.{Query}
use Rattle.pinpointing_specs.specs.LocalModule.{IsLocalModule, FollowsFrom, IsJustification}

-- a query has one local module at most
abbrev pub ModulesAreUnique : Type 0
ModulesAreUnique = (axioms : List Numbered) (q : Query) (s t : NumberSet) → IsLocalModule axioms q s
    → IsLocalModule axioms q t → s ≡ t

-- what follows from some of the axioms follows from more of them: so what holds of smallest yes-sets and smallest
-- removals holds of justifications and repairs
abbrev pub FollowingGrows : Type 0
FollowingGrows = (axioms : List Numbered) (q : Query) → Grows (FollowsFrom axioms q)

-- a query follows from some of the axioms just where it follows from those of them that are in its local module
abbrev pub ModulesKeepEntailment : Type 0
ModulesKeepEntailment = (axioms : List Numbered) (q : Query) (m s : NumberSet) → IsLocalModule axioms q m
    → (FollowsFrom axioms q s ↔ FollowsFrom axioms q (set.intersection s m))

-- each justification is part of the local module
abbrev pub ModulesHoldJustifications : Type 0
ModulesHoldJustifications = (axioms : List Numbered) (q : Query) (m j : NumberSet) → IsLocalModule axioms q m
    → IsJustification axioms q j → IsPart j m
