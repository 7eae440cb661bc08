-- How facts are kept, and how they are shown.
use Rattle.std.specs.Prelude.{ℕ}
use Rattle.refutation_truth.specs.Concept.{Concept}
use Rattle.calculus_specs.specs.declared.facts.Fact.{Fact}
use Rattle.calculus_specs.specs.declared.facts.Fact.TheVariants.{Has, Edge, Apart, Same}
use Rattle.assertion_box.specs.declared.stated_list.Entry.{Entry}
use Rattle.assertion_box.specs.declared.stated_list.Says.{Says}
use Rattle.assertion_box.specs.declared.stated_list.Says.TheVariants as K
use Rattle.assertion_box.specs.declared.given.Given.{Given}
use Rattle.assertion_box.specs.declared.given.Given.TheVariants as G
use Rattle.assertion_box.specs.Stated.{Stated}

-- a fact that is kept, as the definitions see it
abbrev pub kept_fact : Says → Fact Concept
kept_fact (K.Member c a) = Has a c
kept_fact (K.Pair r a b) = Edge r a b
kept_fact (K.Same a b) = Same a b
kept_fact (K.Differ a b) = Apart a b

-- a fact that is kept, with its axiom and its place
abbrev pub kept_stated : Entry → Stated
kept_stated e = record { axiom_number = e.«axiom»; place = e.place; fact = kept_fact e.says }

-- the number of the axiom that gives the fact
abbrev pub axiom_of : Given → ℕ
axiom_of (G.Member k c a) = k
axiom_of (G.Pair k r a b) = k
axiom_of (G.Same k a b) = k
axiom_of (G.Differ k a b) = k

-- what the fact says
abbrev pub fact_of : Given → Fact Concept
fact_of (G.Member k c a) = Has a c.now
fact_of (G.Pair k r a b) = Edge r a b
fact_of (G.Same k a b) = Same a b
fact_of (G.Differ k a b) = Apart a b
