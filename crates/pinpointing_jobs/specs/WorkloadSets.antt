-- The sets of the query of workloads: of each three pairs of axioms one, or one pair.
use Rattle.std.specs.Prelude.{◌≡◌, ◌⊎◌, ◌↔◌, ℕ, ◌≤◌, true, List, [], ◌∷◌, length}
use Rattle.std.specs.FinSet as set
use Rattle.lane_sieve.specs.Sets.{NumberSet}
use Rattle.axiom_sets.specs.Sets.{Limited}
use Rattle.shq_terms.specs.Listed.{Listed}
use Rattle.shq_terms.specs.declared.axioms.Query.{Query as Asked}
use Rattle.pinpointing_specs.specs.LocalModule.{FollowsFrom, of_axioms}
use Rattle.workload.specs.WorkloadText.{workload_text}
use Rattle.workload.specs.WorkloadAxioms.{workload_axioms}
use Rattle.query_asker.specs.Entry.{Entry}
use Rattle.job_inputs.specs.declared.status.Status.TheVariants.{Done}
use Rattle.job_inputs.specs.Questions.{follows, IsQuestion}
use Rattle.pinpointing_jobs.specs.declared.wanted.Wanted.TheVariants.{Justifications, Repairs}
use Rattle.pinpointing_jobs.specs.Wanted.{HasAll}
use Rattle.pinpointing_jobs.specs.Counts.{counts_text}
use Rattle.pinpointing_jobs.specs.Answers.{workload_query, IsMeasured}

-- the set has one of the axioms of these numbers
abbrev pub HasOneOf : NumberSet → ℕ → ℕ → Type 0
HasOneOf s k m = (set.contains s k ≡ true) ⊎ (set.contains s m ≡ true)

-- it has an axiom of each of the three pairs
pub record HasOneOfEach (s : NumberSet) : Type 0 where
  pub first : HasOneOf s 1 2
  pub second : HasOneOf s 3 4
  pub third : HasOneOf s 5 6

-- what holds of the document and the query of each workload
abbrev pub OfWorkloads : (Listed → Asked → Type 0) → Type 0
OfWorkloads holds = (n : ℕ) (o : Listed) (q : Asked) → n ≤ 4000
    → IsQuestion (follows workload_query) (workload_text n) o q → holds o q

-- the query follows from the sets that have an axiom of each pair, and from no others
abbrev pub FollowsByPairs : Listed → Asked → Type 0
FollowsByPairs o q = (s : NumberSet) → FollowsFrom o.axioms q s ↔ HasOneOfEach s

-- ---- how many there are

-- the members of the sets with one axiom of each pair, and those of the pairs, in the order of sets
abbrev pub one_of_each : List (List ℕ)
one_of_each =
    (1 ∷ 3 ∷ 5 ∷ []) ∷ (1 ∷ 3 ∷ 6 ∷ []) ∷ (1 ∷ 4 ∷ 5 ∷ []) ∷ (1 ∷ 4 ∷ 6 ∷ [])
    ∷ (2 ∷ 3 ∷ 5 ∷ []) ∷ (2 ∷ 3 ∷ 6 ∷ []) ∷ (2 ∷ 4 ∷ 5 ∷ []) ∷ (2 ∷ 4 ∷ 6 ∷ []) ∷ []

-- the three pairs of axioms 1 to 6
abbrev pub three_pairs : List (List ℕ)
three_pairs = (1 ∷ 2 ∷ []) ∷ (3 ∷ 4 ∷ []) ∷ (5 ∷ 6 ∷ []) ∷ []

-- the sets of axioms with these members
abbrev pub sets_of : Listed → List (List ℕ) → List Limited
sets_of o [] = []
sets_of o (members ∷ more) = of_axioms o.axioms (set.from_list members) ∷ sets_of o more

-- all justifications are the eight sets with one axiom of each pair, and all repairs the three pairs
pub record HasEightAndThree (o : Listed) (q : Asked) : Type 0 where
  pub justifications : HasAll Justifications o q (sets_of o one_of_each)
  pub repairs : HasAll Repairs o q (sets_of o three_pairs)

-- so these are the numbers that a finished run prints
abbrev pub WorkloadsCountEightAndThree : Type 0
WorkloadsCountEightAndThree = (number budget : ℕ) (out : List ℕ) (log : List Entry) → number ≤ 4000
    → IsMeasured number budget out Done log → out ≡ counts_text number (length (workload_axioms number)) 8 3
