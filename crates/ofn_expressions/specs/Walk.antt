-- The tests of a document or a query, and what a list of them says. A test is judged by what those before it counted.
use Rattle.std.specs.Prelude.{◌≡◌, ◌≢◌, ℕ, ◌+◌, Bool, false, cond, List, [], ◌∷◌, length, Option, Some, None, Result}
use Rattle.std.specs.Prelude.{Ok, Err, nat_le}
use Rattle.shq_terms.specs.Names.{with_name}
use Rattle.shq_terms.specs.declared.add_fault.AddFault.{AddFault}
use Rattle.shq_terms.specs.declared.add_fault.AddFault.TheVariants as fault
use Rattle.ofn_expressions.specs.Counts.{Counts, State}
use Rattle.ofn_expressions.specs.declared.construct.Construct.{Construct}
use Rattle.ofn_expressions.specs.declared.refusal.Refusal.{Refusal}
use Rattle.ofn_expressions.specs.declared.refusal.Refusal.TheVariants.{BadShape, UnknownPrefix, PrefixClash, Outside}
use Rattle.ofn_expressions.specs.declared.refusal.Refusal.TheVariants.{NotSimple, Limit, NoMemory}
use Rattle.ofn_expressions.specs.declared.refusal.Which.{Which}
use Rattle.ofn_expressions.specs.declared.refusal.Which.TheVariants.{Axioms, Classes, Roles, Individuals, Nodes, Number}
use Rattle.ofn_expressions.specs.declared.refusal.Which.TheVariants.{Parts}

-- Each has its line: that an item has the shape which is asked; that a prefix name is declared; that it is not declared
-- with another IRI; that no construct outside of the profile stands there; that one more numbered axiom is within the
-- limit; that so many more parts of axioms are; that so many more nodes are; that a class, a role or an individual
-- which is listed here is; that a cardinality is; that the roles which are counted are simple.
pub data Test : Type 0 where
  shape : ℕ → Bool → Test
  prefix : ℕ → Bool → Test
  clash : ℕ → Bool → Test
  outside : ℕ → Construct → Test
  numbered : ℕ → Test
  parts : ℕ → ℕ → Test
  nodes : ℕ → ℕ → Test
  class : ℕ → List ℕ → Test
  role : ℕ → List ℕ → Test
  individual : ℕ → List ℕ → Test
  number : ℕ → ℕ → Test
  simple : ℕ → Bool → Test

-- whether a test holds, by what was counted and listed before it
abbrev pub holds : Counts → Test → Bool
holds s (shape line fits) = fits
holds s (prefix line declared) = declared
holds s (clash line agrees) = agrees
holds s (outside line construct) = false
holds s (numbered line) = nat_le (s.axioms + 1) 20000
holds s (parts line n) = nat_le (s.parts + n) 500000
holds s (nodes line n) = nat_le (s.nodes + n) 262144
holds s (class line name) = nat_le (length (with_name s.classes name)) 20000
holds s (role line name) = nat_le (length (with_name s.roles name)) 1000
holds s (individual line name) = nat_le (length (with_name s.individuals name)) 20000
holds s (number line n) = nat_le n 100
holds s (simple line fits) = fits

-- what is answered where it fails
abbrev pub refusal : Test → Refusal
refusal (shape line fits) = BadShape line
refusal (prefix line declared) = UnknownPrefix line
refusal (clash line agrees) = PrefixClash line
refusal (outside line construct) = Outside line construct
refusal (numbered line) = Limit Axioms line
refusal (parts line n) = Limit Parts line
refusal (nodes line n) = Limit Nodes line
refusal (class line name) = Limit Classes line
refusal (role line name) = Limit Roles line
refusal (individual line name) = Limit Individuals line
refusal (number line n) = Limit Number line
refusal (simple line fits) = NotSimple line

-- what is counted and listed after a test
abbrev pub counts_after : Counts → Test → Counts
counts_after s (shape line fits) = s
counts_after s (prefix line declared) = s
counts_after s (clash line agrees) = s
counts_after s (outside line construct) = s
counts_after s (numbered line) = record s { axioms = s.axioms + 1 }
counts_after s (parts line n) = record s { parts = s.parts + n }
counts_after s (nodes line n) = record s { nodes = s.nodes + n }
counts_after s (class line name) = record s { classes = with_name s.classes name }
counts_after s (role line name) = record s { roles = with_name s.roles name }
counts_after s (individual line name) = record s { individuals = with_name s.individuals name }
counts_after s (number line n) = s
counts_after s (simple line fits) = s

-- the refusal where a list of names is full, or memory was refused
abbrev pub add_refusal : Which → ℕ → AddFault → Refusal
add_refusal which line fault.Full = Limit which line
add_refusal which line fault.NoMemory = NoMemory

-- the counts after all tests of a list
abbrev pub after_all : Counts → List Test → Counts
after_all s [] = s
after_all s (t ∷ ts) = after_all (counts_after s t) ts

-- whether a test holds, and what is answered where it does not
pub record Outcome : Type 0 where
  pub refusal : Refusal
  pub holds : Bool

-- of each test of a list whether it holds, and with what it refuses
abbrev pub outcomes : Counts → List Test → List Outcome
outcomes s [] = []
outcomes s (t ∷ ts) = record { refusal = refusal t; holds = holds s t } ∷ outcomes (counts_after s t) ts

-- with what the first test that fails refuses, if one fails
abbrev pub first_failing : List Outcome → Option Refusal
first_failing [] = None
first_failing (o ∷ os) = cond o.holds (first_failing os) (Some o.refusal)

-- the counts where nothing failed, and else the refusal
abbrev pub verdict : Option Refusal → Counts → Result Counts Refusal
verdict None s = Ok s
verdict (Some e) s = Err e

-- the counts after all tests where all hold, or else the refusal of the first that fails
abbrev pub walked : Counts → List Test → Result Counts Refusal
walked s ts = verdict (first_failing (outcomes s ts)) (after_all s ts)

-- a refusal is what the tests say, unless memory was refused
abbrev pub RefusalAgrees : Result Counts Refusal → Refusal → Type 0
RefusalAgrees said e = e ≢ NoMemory → said ≡ Err e

-- what a reader gives is what the tests say, unless memory was refused
abbrev pub AgreesWithTests : {X : Type 0} → Result X Refusal → Counts → Result Counts Refusal → Type 0
AgreesWithTests (Ok x) new said = said ≡ Ok new
AgreesWithTests (Err e) new said = RefusalAgrees said e

-- the result, and the counts after it, are those of a walk over the tests
abbrev pub Judged : {X : Type 0} → Result X Refusal → Counts → List Test → Counts → Type 0
Judged result old ts new = AgreesWithTests result new (walked old ts)

-- what a reader gives, and the counts that stand after it, are what the tests say of those before it
abbrev pub Tested : {X : Type 0} → Result X Refusal → State → List Test → State → Type 0
Tested result old ts new = Judged result old.counts ts new.counts
