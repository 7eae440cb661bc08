-- How far the questions have come.
use Rattle.std.specs.Prelude.{◌≡◌, ℕ, ◌+◌, ◌<◌, ◌||◌, Bool, true, false, length, Option, Some, None, MatchOption}
use Rattle.std.specs.List.{list_any}
use Rattle.std.specs.FinSet as set
use Rattle.axiom_sets.specs.Sets.{Limited, IsFull}
use Rattle.shq_oracle.specs.Limits.{IsOntologyInLimit}
use Rattle.shq_oracle.specs.Entries.{is_spent}
use Rattle.shq_oracle.specs.HonestLog.{IsWhole, IsClassificationLog}
use Rattle.shq_oracle.specs.OracleLists.{OracleLists}
use Rattle.subsumption.specs.Matrices.{has}
use Rattle.subsumption.specs.Rows.{holds}
use Rattle.subsumption.specs.Excluded.{AsksNoExcluded}
use Rattle.subsumption.specs.Mirrors.{Mirrors}
use Rattle.subsumption.specs.declared.progress.Progress.{Progress}
use Rattle.subsumption.specs.declared.stop.Stop.{Stop}
use Rattle.subsumption.specs.Stops.{IsStop}

-- the log is honest and asks nothing that was ruled out, something of the budget may be left, and what is kept mirrors
-- the log
pub record IsGoing (l : OracleLists) (p : Progress) : Type 0 where
  pub in_limit : IsOntologyInLimit l.ontology
  pub honest : IsClassificationLog l.ontology l.budget l.log
  pub excluded : AsksNoExcluded l.log
  pub goes_on : list_any is_spent l.log ≡ false
  pub whole : IsWhole l.ontology p.axioms
  pub limit : p.classes.limit ≡ length l.ontology.classes + 2
  pub full : IsFull (length l.ontology.classes + 2) p.classes.members
  pub mirrors : Mirrors l.ontology l.log p.known p.ruled_out

-- the log is honest and asks nothing that was ruled out, where it stopped so
pub record HasStopped (l : OracleLists) (stop : Stop) : Type 0 where
  pub honest : IsClassificationLog l.ontology l.budget l.log
  pub excluded : AsksNoExcluded l.log
  pub is_stop : IsStop l.budget l.log stop

-- one of the classes of a set, whose numbers are greater by one there, or none where it has none
abbrev pub IsOneOf : ℕ → Limited → Option ℕ → Type 0
IsOneOf size classes found =
    MatchOption found ((y : ℕ) → y < size → set.contains classes.members (y + 1) ≡ false)
    (λ y. (y < size) × (set.contains classes.members (y + 1) ≡ true))

-- ---- pairs

-- whether it is known that x is included in y, or ruled out
abbrev pub is_settled : Progress → ℕ → ℕ → Bool
is_settled p x y = holds p.known x y || has p.ruled_out x y

-- the pairs that were settled still are
abbrev pub StaysSettled : Progress → Progress → Type 0
StaysSettled old new = (x y : ℕ) → x < old.known.count + 2 → y < old.known.count + 2 → is_settled old x y ≡ true
    → is_settled new x y ≡ true

-- it goes on, no less is settled, and of as many classes
pub record Advances (l : OracleLists) (old new : Progress) : Type 0 where
  pub going : IsGoing l new
  pub count_is : new.known.count ≡ old.known.count
  pub stays : StaysSettled old new

-- each pair of the class is settled
abbrev pub IsDone : Progress → ℕ → Type 0
IsDone p x = (y : ℕ) → y < p.known.count + 2 → is_settled p x y ≡ true

-- a pair of the class that is not settled, or none where each is
abbrev pub IsOpenAt : Progress → ℕ → Option ℕ → Type 0
IsOpenAt p x None = IsDone p x
IsOpenAt p x (Some y) = (y < p.known.count + 2) × (is_settled p x y ≡ false)

-- the set has each class of which it is not settled whether x is included in it; its numbers are greater by one
abbrev pub HasOpen : Progress → ℕ → Limited → Type 0
HasOpen p x classes = (y : ℕ) → y < p.known.count + 2 → is_settled p x y ≡ false
    → set.contains classes.members (y + 1) ≡ true
