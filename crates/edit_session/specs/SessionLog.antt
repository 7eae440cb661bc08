-- The log of a session: of what each test was, and when the log is honest.
--
-- A test's set of axioms has the limit of its time. Axioms that are added later change nothing of what the entry says:
-- it speaks of the first axioms, as many as its limit. The names of a query that no axiom uses are listed no more after
-- its answer, and their numbers may be given to other names. That changes nothing either: whether a query follows is
-- said of numbers, and a number that no axiom has stands for any class, role or individual whatever its name is. So two
-- texts with different names may be one query, which has one answer, and no definition here asks that the names of a
-- query of the log are listed still.
use Rattle.std.specs.Prelude.{◌≡◌, ℕ, Bool, List, [], ◌∷◌, ◌++◌, take, All}
use Rattle.axiom_sets.specs.Sets.{Limited}
use Rattle.shq_terms.specs.Listed.{Listed}
use Rattle.shq_terms.specs.declared.axioms.Query.{Query}
use Rattle.job_inputs.specs.Limits.{IsInLimit}
use Rattle.shq_oracle.specs.Entry.{Entry}
use Rattle.shq_oracle.specs.Entry.TheVariants.{Test, Node}
use Rattle.shq_oracle.specs.TestEnd.{TestEnd}
use Rattle.shq_oracle.specs.Entries.{ended_spent, IsAnswered}
use Rattle.shq_oracle.specs.HonestLog.{IsHonestEntry, IsWithinBudget, EndsWhenSpent, AsksNoAnswer}

-- ---- honest entries

-- a test of a set was honest over the ontology as it stood then: its axioms are the first of those now, as many as the
-- limit of the set, and its names are listed with those of the query
pub record WasHonest (o : Listed) (s : Limited) (q : Query) (steps : ℕ) (e : TestEnd) : Type 0 where
  pub standing : Listed
  pub first_axioms : standing.axioms ≡ take s.limit o.axioms
  pub in_limit : IsInLimit standing q
  pub honest : IsHonestEntry standing (Test s q steps e)

-- a session takes no nodes
abbrev pub IsHonestThen : Listed → Entry → Type 0
IsHonestThen o (Test s q steps e) = WasHonest o s q steps e
IsHonestThen o (Node s) = ⊥

-- at most the budget was spent, each entry was honest when it was made, and no set was tested for which an earlier
-- entry answers. Sets of different limits are compared by their members.
pub record IsSessionLog (o : Listed) (budget : ℕ) (log : List Entry) : Type 0 where
  pub within : IsWithinBudget budget log
  pub honest : All (IsHonestThen o) log
  pub ends : EndsWhenSpent budget log
  pub new : AsksNoAnswer log

-- ---- what a query logs

-- The log gained a test of the set and the query that was honest and that no earlier entry answers. Either it ran out
-- of steps, or it did not.
pub record Tests (ran_out : Bool) (o : Listed) (s : Limited) (q : Query) (before after : List Entry) : Type 0 where
  pub steps : ℕ
  pub ended : TestEnd
  pub is_log : after ≡ before ++ Test s q steps ended ∷ []
  pub is_end : ended_spent ended ≡ ran_out
  pub honest : IsHonestEntry o (Test s q steps ended)
  pub new : ¬ IsAnswered before s q
