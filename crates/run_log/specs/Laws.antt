-- What follows from honest logs.
use Rattle.std.specs.Prelude.{◌≡◌, ◌↔◌, ℕ, List, Contains}
use Rattle.pinpointing_specs.specs.NumberSets.{IsPart}
use Rattle.pinpointing_specs.specs.Sets.{Limited}
use Rattle.shq_terms.specs.Concept.{Concept}
use Rattle.shq_terms.specs.Listed.{Listed}
use Rattle.shq_terms.specs.declared.axioms.On.TheVariants.{Any}
use Rattle.shq_terms.specs.declared.axioms.Query.{Query}
use Rattle.pinpointing_specs.specs.Truth.{Entails}
use Rattle.pinpointing_specs.specs.LocalModule.{FollowsFrom}
use Rattle.refutation_truth.specs.Theory.{all_axioms}
use Rattle.run_log.specs.declared.entry.Entry.{Entry}
use Rattle.run_log.specs.declared.entry.Entry.TheVariants.{Test}
use Rattle.run_log.specs.declared.entry.TestEnd.{TestEnd}
use Rattle.run_log.specs.declared.entry.TestEnd.TheVariants.{Yes, No, Spent}
use Rattle.run_log.specs.Entries.{EndAnswers}
use Rattle.run_log.specs.HonestLog.{IsAxiomSet, IsWhole, axioms_of, FollowsIn, EachIsHonest, AreClassTests, IsChain}

-- what follows from the axioms of a set follows from the axioms with its numbers
abbrev pub SetsAreNamed : Type 0
SetsAreNamed = (o : Listed) (s : Limited) (q : Query) → IsAxiomSet o s
    → (FollowsIn o s q ↔ FollowsFrom o.axioms q s.members)

-- the axioms of the set of all are all axioms
abbrev pub WholeIsAll : Type 0
WholeIsAll = (o : Listed) (s : Limited) → IsWhole o s → axioms_of o s ≡ all_axioms o.axioms

-- what follows from a set follows from a greater one
abbrev pub FollowsInMore : Type 0
FollowsInMore = (o : Listed) (s t : Limited) (q : Query) → IsAxiomSet o s → IsAxiomSet o t → IsPart s.members t.members
    → FollowsIn o s q → FollowsIn o t q

-- what such an end says of another set
abbrev pub Tells : Listed → Limited → Query → TestEnd → Type 0
Tells o asked q (Yes u) = FollowsIn o asked q
Tells o asked q No = ¬ FollowsIn o asked q
Tells o asked q (Spent t) = Unit {0}

-- where an entry of an honest log answers for another set, it is so
abbrev pub AnswersAreTrue : Type 0
AnswersAreTrue = (o : Listed) (log : List Entry) (asked s : Limited) (q : Query) (steps : ℕ) (e : TestEnd)
    → EachIsHonest o log → IsAxiomSet o asked
    → Contains log (Test s q steps e) → EndAnswers s e asked → Tells o asked q e

-- where a chain of an honest classification leads from one class to another, the former is included in the
-- latter
abbrev pub ChainsAreTrue : Type 0
ChainsAreTrue = (o : Listed) (log : List Entry) (x y : Concept) → EachIsHonest o log → AreClassTests o log
    → IsChain log x y
    → Entails (all_axioms o.axioms) (record { sub = x; sup = y; on = Any })
