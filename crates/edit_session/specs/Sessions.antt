-- A session between two lines of its script.
use Rattle.std.specs.Prelude.{length}
use Rattle.std.specs.Coded.{Coded, coded_ℕ}
use Rattle.std.specs.FinSet as set
use Rattle.lane_sieve.specs.Sets.{NumberSet}
use Rattle.axiom_sets.specs.Sets.{Limited}
use Rattle.pinpointing_specs.specs.Smallest.{numbers_to}
use Rattle.pinpointing_specs.specs.LocalModule.{of_axioms}
use Rattle.shq_terms.specs.Listed.{Listed}
use Rattle.ofn_reader.specs.DocumentContext.{DocumentContext}
use Rattle.edit_session.specs.Noted.{Noted}

-- the axioms that were ever held and the names that are listed, what texts are read with, and the numbers of the axioms
-- that are live: those that were not removed
pub record State : Type 0 where
  pub ontology : Listed
  pub context : DocumentContext
  pub live : NumberSet

-- the state of a session: an ontology, what belongs to its document, and the live axioms
abbrev pub state_of : Listed → DocumentContext → NumberSet → State
state_of o kept live = record { ontology = o; context = kept; live = live }

-- as a document leaves it: each axiom is live
abbrev pub begun : Listed → DocumentContext → State
begun o kept = state_of o kept (numbers_to (length o.axioms))

-- the live axioms as a set of axioms of the ontology
abbrev pub live_set : State → Limited
live_set s = of_axioms s.ontology.axioms s.live

-- what contracts see of a session
pub record SessionLists : Type 0 where
  pub state : State
  pub noted : Noted

-- sets of live axioms can be coded, and read back
abbrev pub live_code : Coded NumberSet
live_code = set.code coded_ℕ
