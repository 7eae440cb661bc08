-- Taxonomies, instances and types by what follows in a world, and in that of each finite interpretation.
use Rattle.std.specs.Prelude.{◌≡◌, ◌↔◌, ℕ, ◌+◌, ◌<◌, ◌≤◌, Bool, true, List, length, map}
use Rattle.std.specs.List.{Contains}
use Rattle.shq_terms.specs.Concept.{Concept, name}
use Rattle.shq_terms.specs.Listed.{Listed}
use Rattle.all_worlds.specs.Worlds.{World}
use Rattle.search_starts.specs.Laws.{FollowsInAll}
use Rattle.subsumption.specs.Groups.{Parthood}
use Rattle.subsumption.specs.Subsumption.{query_at}
use Rattle.realizer.specs.Theory.{all_axioms}
use Rattle.realizer.specs.Instances.{instance_query, individuals_by}
use Rattle.realizer.specs.Realization.{Typing, types_by}
use Rattle.realizer.specs.declared.types.Types.{Types}
use Rattle.pinpointing_jobs.specs.declared.wanted.Wanted.TheVariants.{Justifications}
use Rattle.individual_jobs.specs.ReasonLists.{ReasonLists}
use Rattle.individual_jobs.specs.Reasons.{individual_of}
use Rattle.runs_everywhere.specs.Sets.{HasAllIn}

-- for each two classes it says whether the one is part of the other by the axioms
abbrev pub IsSubsumptionIn : {d : Type 0} → World d → Listed → Parthood → Type 0
IsSubsumptionIn w o part_of = (x y : ℕ) → x ≤ length o.classes + 1 → y ≤ length o.classes + 1
    → (part_of x y ≡ true ↔ FollowsInAll w (all_axioms o.axioms) (query_at (length o.classes) x y))

-- the individual is in the class expression, by all axioms
abbrev pub IsInstanceIn : {d : Type 0} → World d → Listed → Concept → ℕ → Type 0
IsInstanceIn w o c a = FollowsInAll w (all_axioms o.axioms) (instance_query c a)

-- these are just the instances among the listed individuals, in list order
pub record AreInstancesIn {d : Type 0} (w : World d) (o : Listed) (c : Concept) (found : List ℕ) : Type 0 where
  pub test : ℕ → Bool
  pub is_so : (a : ℕ) → a < length o.individuals → (test a ≡ true ↔ IsInstanceIn w o c a)
  pub listed : found ≡ individuals_by o test

-- it says of each listed individual and each listed class whether the one is an instance of the other
abbrev pub SaysInstancesIn : {d : Type 0} → World d → Listed → Typing → Type 0
SaysInstancesIn w o typed = (a x : ℕ) → a < length o.individuals → x < length o.classes
    → (typed a x ≡ true ↔ IsInstanceIn w o (name x) a)

-- these are the direct types of each listed individual, by all axioms
pub record AreTypesIn {d : Type 0} (w : World d) (o : Listed) (types : Types) : Type 0 where
  pub part_of : Parthood
  pub is_so : IsSubsumptionIn w o part_of
  pub typed : Typing
  pub is_typed : SaysInstancesIn w o typed
  pub types_are : types ≡ types_by o part_of typed

-- these are just the instances among the listed individuals, each with all justifications of its being one
pub record AreReasonsIn {d : Type 0} (w : World d) (o : Listed) (c : Concept) (rs : List ReasonLists) : Type 0 where
  pub instances : AreInstancesIn w o c (map individual_of rs)
  pub reasons : (r : ReasonLists) → Contains rs r
      → HasAllIn w Justifications o (instance_query c r.individual) r.justifications
