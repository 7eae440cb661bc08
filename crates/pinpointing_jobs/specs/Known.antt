-- What a search that was cut short has found, and what it lacks.
use Rattle.std.specs.Prelude.{◌≡◌, ℕ, true, List}
use Rattle.std.specs.List.{Contains}
use Rattle.std.specs.FinSet as set
use Rattle.lane_sieve.specs.Sets.{NumberSet, IsPart}
use Rattle.axiom_sets.specs.Sets.{Limited}
use Rattle.pinpointing_specs.specs.Smallest.{MeetsEach}
use Rattle.pinpointing_specs.specs.Nodes.{AreNodes}
use Rattle.shq_terms.specs.Listed.{Listed}
use Rattle.shq_terms.specs.declared.axioms.Query.{Query as Asked}
use Rattle.pinpointing_specs.specs.LocalModule.{IsLocalModule, of_axioms}
use Rattle.query_asker.specs.Entry.{Entry}
use Rattle.query_asker.specs.Entries.{nodes_of}
use Rattle.query_asker.specs.Shown.{IsShownYes, IsShownNo}
use Rattle.query_asker.specs.Told.{IsShownNoIn}

-- the log shows that the set is a justification: a test found that the query follows from just its axioms, and for each
-- of them one found that it does not follow from the others, as far as they are in the module
pub record IsShownJustification (log : List Entry) (q : Asked) (m j : NumberSet) : Type 0 where
  pub follows : IsShownYes log q j
  pub needed : (k : ℕ) → set.contains j k ≡ true → IsShownNoIn log q m (set.remove j k)

-- ---- what is known, where sets of some kind have all that matters: local modules, or the set of all axioms

-- each justification that the log shows is listed
abbrev pub HasAllShownAmong : (NumberSet → Type 0) → Listed → Asked → List Entry → List Limited → Type 0
HasAllShownAmong is_enough o q log sets = (m j : NumberSet) → is_enough m → IsShownJustification log q m j
    → Contains sets (of_axioms o.axioms j)

-- The log does not show that these are all justifications: some set meets each of them, and of no node in it the log
-- shows that the query does not follow without the node's axioms. Where all were found, and the log shows it, there is
-- no such set.
pub record LeavesSomeOpenAmong (is_enough : NumberSet → Type 0) (q : Asked) (log : List Entry) (sets : List Limited) :
    Type 0 where
  pub left : NumberSet
  pub meets : MeetsEach sets left
  pub no_leaf : (m : NumberSet) (node : Limited) → is_enough m → Contains (nodes_of log) node
      → IsPart node.members left → ¬ IsShownNo log q m node.members

-- the nodes of the log are those of a hitting-set tree by these justifications, each that the log shows is one of them,
-- and some are lacking as far as the log shows
pub record AreKnownAmong (is_enough : NumberSet → Type 0) (o : Listed) (q : Asked) (log : List Entry)
    (sets : List Limited) : Type 0 where
  pub tree : AreNodes sets (nodes_of log)
  pub shown : HasAllShownAmong is_enough o q log sets
  pub left_open : LeavesSomeOpenAmong is_enough q log sets

-- ---- among the axioms of a local module

-- each justification that the log shows, by tests within a local module, is listed
abbrev pub HasAllShown : Listed → Asked → List Entry → List Limited → Type 0
HasAllShown o q log sets = HasAllShownAmong (IsLocalModule o.axioms q) o q log sets

-- the log does not show, by tests within a local module, that these are all justifications
abbrev pub LeavesSomeOpen : Listed → Asked → List Entry → List Limited → Type 0
LeavesSomeOpen o q log sets = LeavesSomeOpenAmong (IsLocalModule o.axioms q) q log sets

-- the log shows these justifications, by tests within a local module, and does not show that they are all
abbrev pub AreKnown : Listed → Asked → List Entry → List Limited → Type 0
AreKnown o q log sets = AreKnownAmong (IsLocalModule o.axioms q) o q log sets
