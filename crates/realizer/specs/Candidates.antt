-- What is still possible: sets of individuals, and of classes for each individual, from which counter-models take out
-- what need not be so.
use Rattle.std.specs.Prelude.{◌≡◌, ℕ, ◌+◌, ◌<◌, ◌&&◌, ◌||◌, Bool, true, nat_lt, List, length}
use Rattle.std.specs.FinSet as set
use Rattle.axiom_sets.specs.Sets.{Limited}
use Rattle.shq_terms.specs.Concept.{Concept, name}
use Rattle.shq_terms.specs.Listed.{Listed}
use Rattle.shq_meaning.specs.Truth.{Interpretation, holds}
use Rattle.realizer.specs.Instances.{IsInstance}
use Rattle.realizer.specs.TypeRows.{AreTypeRows, typed_by}

-- the individual a is a member, by the number a + 1
abbrev pub has_individual : Limited → ℕ → Bool
has_individual s a = set.contains s.members (a + 1)

-- an individual comes before the one that is asked about, or it is in the class expression in an interpretation
abbrev pub stays_possible : Interpretation → Concept → ℕ → ℕ → Bool
stays_possible i c from a = nat_lt a from || holds i c (i.individual a)

-- each instance among the listed individuals is in the set, and those of the first i that are in it are instances
pub record AreCandidates (o : Listed) (c : Concept) (i : ℕ) (s : Limited) : Type 0 where
  pub limit_is : s.limit ≡ length o.individuals
  pub possible : (a : ℕ) → a < length o.individuals → IsInstance o c a → has_individual s a ≡ true
  pub sure : (a : ℕ) → a < i → a < length o.individuals → has_individual s a ≡ true → IsInstance o c a

-- each listed class of which a listed individual is an instance is in its row, and of the first i individuals those
-- classes that are in the row are such
pub record AreCandidateRows (o : Listed) (i : ℕ) (rows : List Limited) : Type 0 where
  pub are_rows : AreTypeRows (length o.classes) (length o.individuals) rows
  pub possible : (a x : ℕ) → a < length o.individuals → x < length o.classes → IsInstance o (name x) a
      → typed_by rows a x ≡ true
  pub sure : (a x : ℕ) → a < i → a < length o.individuals → x < length o.classes → typed_by rows a x ≡ true
      → IsInstance o (name x) a

-- each listed class is in the row of each listed individual
abbrev pub AreFullRows : Listed → List Limited → Type 0
AreFullRows o rows = (a x : ℕ) → a < length o.individuals → x < length o.classes → typed_by rows a x ≡ true

-- of the individuals from one of them on, each row has what it had that is so in an interpretation
pub record ArePruned (i : Interpretation) (classes from : ℕ) (old new : List Limited) : Type 0 where
  pub are_rows : AreTypeRows classes (length old) new
  pub classes_are : (a x : ℕ) → a < length old → x < classes
      → typed_by new a x ≡ (typed_by old a x && stays_possible i (name x) from a)
