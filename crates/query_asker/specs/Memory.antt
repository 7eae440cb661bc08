-- What is remembered of a log.
use Rattle.std.specs.Prelude.{◌≡◌, ◌≤◌, Option, None, Some, List, [], ◌∷◌, ◌++◌, length, take}
use Rattle.std.specs.List.{Contains, flat_map}
use Rattle.lane_sieve.specs.Sets.{IsPart}
use Rattle.axiom_sets.specs.Sets.{Limited}
use Rattle.set_questions.specs.Kept.{kind_of, kept_sets, AreKept}
use Rattle.set_questions.specs.declared.antichain.Kind.{Kind}
use Rattle.set_questions.specs.declared.antichain.Kind.TheVariants.{Minimal, Maximal}
use Rattle.set_questions.specs.declared.entail.Reply.{Reply}
use Rattle.set_questions.specs.declared.entail.Reply.TheVariants.{Yes, No, Spent}
use Rattle.shq_oracle.specs.Entry.{Entry}
use Rattle.shq_oracle.specs.Entry.TheVariants.{Test, Node}
use Rattle.shq_oracle.specs.TestEnd.{TestEnd}
use Rattle.shq_oracle.specs.TestEnd.TheVariants as E
use Rattle.query_asker.specs.declared.memo.Memo.{Memo}

-- ---- what tests found

-- the axioms from which a test found that the query follows
abbrev pub yes_by : TestEnd → List Limited
yes_by (E.Yes u) = u ∷ []
yes_by E.No = []
yes_by (E.Spent t) = []

-- the set from which a test of it found that it does not
abbrev pub no_by : Limited → TestEnd → List Limited
no_by s (E.Yes u) = []
no_by s E.No = s ∷ []
no_by s (E.Spent t) = []

-- the set of axioms that an entry shows to be enough, if it shows one
abbrev pub yes_of : Entry → List Limited
yes_of (Test s q steps e) = yes_by e
yes_of (Node s) = []

-- the set of axioms that an entry shows not to be enough, if it shows one
abbrev pub no_of : Entry → List Limited
no_of (Test s q steps e) = no_by s e
no_of (Node s) = []

-- the sets that a log shows to be enough
abbrev pub yes_sets : List Entry → List Limited
yes_sets log = flat_map yes_of log

-- the sets that a log shows not to be enough
abbrev pub no_sets : List Entry → List Limited
no_sets log = flat_map no_of log

-- ---- the memo

-- of the entries that were seen the smallest sets are kept from which the query follows, and the greatest from which
-- it does not
pub record IsMemo (m : Memo) (log : List Entry) : Type 0 where
  pub within : m.seen ≤ length log
  pub yes_kind : kind_of m.yes ≡ Minimal
  pub no_kind : kind_of m.no ≡ Maximal
  pub yes_kept : AreKept Minimal (yes_sets (take m.seen log)) (kept_sets m.yes)
  pub no_kept : AreKept Maximal (no_sets (take m.seen log)) (kept_sets m.no)

-- whatever all sets were before, the new list has those to be kept of these and of some more
abbrev pub KeepsWithAll : Kind → List Limited → List Limited → List Limited → Type 0
KeepsWithAll kind more old new = (all : List Limited) → AreKept kind all old → AreKept kind (all ++ more) new

-- the set is part of one of the sets
abbrev pub IsInSome : Limited → List Limited → Type 0
IsInSome s sets = (t : Limited) × Contains sets t × IsPart s.members t.members

-- what the log says of a set of axioms: the query follows from a part of it, or does not follow from more than it, or
-- neither is said
abbrev pub Recalls : List Entry → Limited → Option Reply → Type 0
Recalls log s None = ((u : Limited) → Contains (yes_sets log) u → ¬ IsPart u.members s.members)
    × (¬ IsInSome s (no_sets log))
Recalls log s (Some (Yes u)) = Contains (yes_sets log) u × IsPart u.members s.members
Recalls log s (Some No) = IsInSome s (no_sets log)
Recalls log s (Some Spent) = ⊥
