-- What contracts see of an asker.
use Rattle.std.specs.Prelude.{ℕ, List}
use Rattle.std.specs.FinSet as set
use Rattle.std.specs.Coded.{Coded, coded_ℕ}
use Rattle.lane_sieve.specs.Sets.{NumberSet}
use Rattle.shq_terms.specs.Listed.{Listed}
use Rattle.shq_terms.specs.declared.axioms.Query.{Query}
use Rattle.shq_oracle.specs.Entry.{Entry}

-- the ontology, the query, the budget of steps and nodes, the axioms among which it asks, the entries that the log
-- had before and those that it gained, and how many asks were answered
pub record AskerLists : Type 0 where
  pub ontology : Listed
  pub query : Query
  pub budget : ℕ
  pub local_part : NumberSet
  pub before : List Entry
  pub gained : List Entry
  pub asks : ℕ

-- sets of numbers can be coded, and read back
abbrev pub number_set_code : Coded NumberSet
number_set_code = set.code coded_ℕ

-- of these what no call changes
pub record AskerOrigin : Type 0 where
  pub ontology : Listed
  pub query : Query
  pub budget : ℕ
  pub local_part : NumberSet
  pub before : List Entry

-- what an asker began with
abbrev pub origin_of : AskerLists → AskerOrigin
origin_of a =
    record { ontology = a.ontology; query = a.query; budget = a.budget; local_part = a.local_part; before = a.before }
