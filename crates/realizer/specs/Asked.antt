-- How far the questions on individuals have come.
use Rattle.std.specs.Prelude.{◌≡◌, ℕ, ◌+◌, ◌<◌, ◌&&◌, not, Bool, true, false, List, length, All, Option, MatchOption}
use Rattle.std.specs.List.{list_any}
use Rattle.axiom_sets.specs.Sets.{Limited}
use Rattle.shq_terms.specs.Concept.{Concept, name}
use Rattle.shq_terms.specs.Listed.{Listed}
use Rattle.shq_terms.specs.declared.axioms.On.{On}
use Rattle.shq_terms.specs.declared.axioms.On.TheVariants.{Any, Individual}
use Rattle.subsumption.specs.Limits.{IsOntologyInLimit, IsInLimit}
use Rattle.subsumption.specs.Entry.{Entry}
use Rattle.subsumption.specs.Entry.TheVariants.{Test, Node}
use Rattle.subsumption.specs.TestEnd.{TestEnd}
use Rattle.subsumption.specs.TestEnd.TheVariants.{Yes, No}
use Rattle.subsumption.specs.Entries.{is_spent}
use Rattle.subsumption.specs.HonestLog.{IsWhole}
use Rattle.subsumption.specs.OracleLists.{OracleLists}
use Rattle.subsumption.specs.Rows.{Rows, holds, IsOrder}
use Rattle.subsumption.specs.Subsumption.{IsSubsumption}
use Rattle.subsumption.specs.Stops.{IsStop}
use Rattle.subsumption.specs.declared.stop.Stop.{Stop}
use Rattle.subsumption.specs.ClassSets.{has_class}
use Rattle.realizer.specs.Instances.{IsInstance, instance_query}
use Rattle.realizer.specs.RealizationLogs.{IsInstancesLog, IsRealizationLog}
use Rattle.realizer.specs.TypeRows.{typed_by}
use Rattle.realizer.specs.Candidates.{AreCandidates, AreCandidateRows}
use Rattle.realizer.specs.ShownLogs.{ShowsMembers, ShowsRows, ShowsKnownTypes}

-- only the log differs
pub record AreAlike (before after : OracleLists) : Type 0 where
  pub ontology : after.ontology ≡ before.ontology
  pub budget : after.budget ≡ before.budget

-- ---- which individuals are in a class expression

-- a test is on one of the first i individuals
abbrev pub IsOnBefore : ℕ → On → Type 0
IsOnBefore i Any = ⊥
IsOnBefore i (Individual a) = a < i

-- the entry is a test on an individual before this one
abbrev pub IsTestBefore : ℕ → Entry → Type 0
IsTestBefore i (Test s q steps e) = IsOnBefore i q.on
IsTestBefore i (Node s) = ⊥

-- the log is honest, something of the budget may be left, and the first i individuals alone were asked about, of which
-- it is known whether they are instances, as the log shows
pub record IsAsking (l : OracleLists) (c : Concept) (i : ℕ) (members : Limited) : Type 0 where
  pub in_limit : (a : ℕ) → a < length l.ontology.individuals → IsInLimit l.ontology (instance_query c a)
  pub honest : IsInstancesLog l.ontology c l.budget l.log
  pub goes_on : list_any is_spent l.log ≡ false
  pub before : All (IsTestBefore i) l.log
  pub candidates : AreCandidates l.ontology c i members
  pub shown : ShowsMembers l.ontology c l.log i members

-- the log is honest, where it stopped so
pub record HasHalted (l : OracleLists) (c : Concept) (halt : Stop) : Type 0 where
  pub honest : IsInstancesLog l.ontology c l.budget l.log
  pub is_stop : IsStop l.budget l.log halt

-- ---- which classes each individual is in

-- what a test on the individual a about a class found is known: a class of which it is an instance is among its types,
-- and one of which it is none is no more possible
abbrev pub IsNoted : List Limited → ℕ → Limited → Concept → TestEnd → Type 0
IsNoted rows a types (name x) (Yes u) = has_class types x ≡ true
IsNoted rows a types (name x) No = typed_by rows a x ≡ false
IsNoted rows a types _ _ = ⊥

-- a test is of all elements, or on one of the first a individuals, or on the individual a, and then what it found is
-- known
abbrev pub IsKnownOn : List Limited → ℕ → Limited → Concept → TestEnd → On → Type 0
IsKnownOn rows a types sup e Any = Unit {0}
IsKnownOn rows a types sup e (Individual b) = (b ≡ a → IsNoted rows a types sup e) × (b < a + 1)

-- the entry is a test of which it is known what it found: of all elements, or on an individual up to this one
abbrev pub IsKnown : List Limited → ℕ → Limited → Entry → Type 0
IsKnown rows a types (Test s q steps e) = IsKnownOn rows a types q.sup e q.on
IsKnown rows a types (Node s) = ⊥

-- a test is of all elements, or on one of the first a individuals
abbrev pub IsOnEarlier : ℕ → On → Type 0
IsOnEarlier a Any = Unit {0}
IsOnEarlier a (Individual b) = b < a

-- the entry is a test on an earlier individual
abbrev pub IsEarlier : ℕ → Entry → Type 0
IsEarlier a (Test s q steps e) = IsOnEarlier a q.on
IsEarlier a (Node s) = ⊥

-- what holds between any two questions: the log is honest, something of the budget may be left, the relation of the
-- classes is known, and of the first a individuals the classes, as the log shows
pub record IsTyping (l : OracleLists) (known : Rows) (axioms : Limited) (a : ℕ) (rows : List Limited) : Type 0 where
  pub in_limit : IsOntologyInLimit l.ontology
  pub honest : IsRealizationLog l.ontology l.budget l.log
  pub goes_on : list_any is_spent l.log ≡ false
  pub whole : IsWhole l.ontology axioms
  pub count_is : known.count ≡ length l.ontology.classes
  pub order : IsOrder (length l.ontology.classes + 2) (holds known)
  pub is_so : IsSubsumption l.ontology (holds known)
  pub candidates : AreCandidateRows l.ontology a rows
  pub shown : ShowsRows l.ontology known l.log a rows

-- no question on the individual a or a later one was asked
pub record IsBefore (l : OracleLists) (known : Rows) (axioms : Limited) (a : ℕ) (rows : List Limited) : Type 0 where
  pub typing : IsTyping l known axioms a rows
  pub earlier : All (IsEarlier a) l.log

-- these are classes of which the individual is an instance, with each class above one of them, and the class of all
-- things is among them
pub record AreKnownTypes (o : Listed) (known : Rows) (a : ℕ) (types : Limited) : Type 0 where
  pub limit_is : types.limit ≡ known.count + 2
  pub closed : (x y : ℕ) → x < known.count + 2 → y < known.count + 2 → has_class types x ≡ true → holds known x y ≡ true
      → has_class types y ≡ true
  pub has_top : has_class types known.count ≡ true
  pub sure : (x : ℕ) → x < known.count → has_class types x ≡ true → IsInstance o (name x) a

-- the individual a is asked about: what was found of it is known, and shown by the log
pub record IsAmid (l : OracleLists) (known : Rows) (axioms : Limited) (a : ℕ) (rows : List Limited) (types : Limited) :
    Type 0 where
  pub typing : IsTyping l known axioms a rows
  pub is_individual : a < length l.ontology.individuals
  pub noted : All (IsKnown rows a types) l.log
  pub types_known : AreKnownTypes l.ontology known a types
  pub types_shown : ShowsKnownTypes known l.log a types

-- the class is possible for the individual, and it is not known to be one of its types
abbrev pub is_open : List Limited → ℕ → Limited → ℕ → Bool
is_open rows a types x = typed_by rows a x && not (has_class types x)

-- an open class, or none where none is open
abbrev pub IsOpenClass : ℕ → List Limited → ℕ → Limited → Option ℕ → Type 0
IsOpenClass count rows a types found =
    MatchOption found ((x : ℕ) → x < count → is_open rows a types x ≡ false)
    (λ x. (x < count) × (is_open rows a types x ≡ true))

-- what was open still is, or is settled, and the class that was asked about is
pub record IsCloser (count : ℕ) (old : List Limited) (types : Limited) (new : List Limited) (types' : Limited)
    (a class : ℕ) : Type 0 where
  pub fewer : (x : ℕ) → x < count → is_open new a types' x ≡ true → is_open old a types x ≡ true
  pub settled : is_open new a types' class ≡ false

-- the log is honest, where it stopped so
pub record HasStopped (l : OracleLists) (stop : Stop) : Type 0 where
  pub honest : IsRealizationLog l.ontology l.budget l.log
  pub is_stop : IsStop l.budget l.log stop
