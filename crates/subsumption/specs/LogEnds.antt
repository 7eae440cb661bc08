-- How the log of questions between classes begins, and how it ends where the budget was spent.
use Rattle.std.specs.Prelude.{◌≡◌, ℕ, List, [], ◌∷◌, ◌++◌}
use Rattle.axiom_sets.specs.Sets.{Limited}
use Rattle.shq_terms.specs.Concept.{top, bottom}
use Rattle.shq_terms.specs.declared.axioms.On.TheVariants.{Any}
use Rattle.shq_terms.specs.declared.axioms.Query.{Query}
use Rattle.shq_oracle.specs.Trails.{TrailLists}
use Rattle.shq_oracle.specs.Entry.{Entry}
use Rattle.shq_oracle.specs.Entry.TheVariants.{Test, Node}
use Rattle.shq_oracle.specs.TestEnd.TheVariants.{Spent}
use Rattle.shq_oracle.specs.Entries.{spent_of}

-- the last entry is a test that ended since the budget was spent, and nothing of the budget is left
pub record EndsSpent (budget : ℕ) (log : List Entry) : Type 0 where
  pub before : List Entry
  pub asked : Limited
  pub query : Query
  pub steps : ℕ
  pub trail : TrailLists
  pub is_log : log ≡ before ++ Test asked query steps (Spent trail) ∷ []
  pub whole : spent_of log ≡ budget

-- whether owl:Thing is included in owl:Nothing
abbrev pub all_in_none : Query
all_in_none = record { sub = top; sup = bottom; on = Any }

-- where the log has an entry, the first is a test of the query
abbrev pub BeginsWith : Query → List Entry → Type 0
BeginsWith q [] = Unit {0}
BeginsWith q (Test s p steps e ∷ es) = p ≡ q
BeginsWith q (Node s ∷ es) = ⊥
