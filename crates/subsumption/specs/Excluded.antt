-- Logs that ask nothing of which an earlier no is the answer.
use Rattle.std.specs.Prelude.{◌≡◌, ℕ, List, take, Some, slice_get}
use Rattle.axiom_sets.specs.Sets.{Limited}
use Rattle.shq_terms.specs.declared.axioms.Query.{Query}
use Rattle.shq_oracle.specs.Entry.{Entry}
use Rattle.shq_oracle.specs.Entry.TheVariants.{Test}
use Rattle.shq_oracle.specs.TestEnd.{TestEnd}
use Rattle.shq_oracle.specs.Shown.{IsRuledOut}

-- no query is tested that earlier tests rule out: one that was no, and chains
abbrev pub AsksNoExcluded : List Entry → Type 0
AsksNoExcluded log = (place : ℕ) (s : Limited) (q : Query) (steps : ℕ) (e : TestEnd)
    → slice_get log place ≡ Some (Test s q steps e) → ¬ IsRuledOut (take place log) q.sub q.sup
