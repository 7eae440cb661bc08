-- What a log shows of individuals: that they are instances, by tests that ended with yes, or that they need not be, by
-- counter-models to what tests ended with no about.
use Rattle.std.specs.Prelude.{◌≡◌, ◌⊎◌, ℕ, ◌+◌, ◌<◌, true, false, List, length, Contains}
use Rattle.axiom_sets.specs.Sets.{Limited}
use Rattle.shq_terms.specs.Concept.{Concept, name}
use Rattle.shq_terms.specs.Listed.{Listed}
use Rattle.shq_terms.specs.declared.axioms.Query.{Query}
use Rattle.shq_meaning.specs.Truth.{holds as has_element}
use Rattle.finite_model.specs.ModelLists.{ModelLists, meaning}
use Rattle.subsumption.specs.ClassSets.{has_class}
use Rattle.subsumption.specs.Decided.{IsRefuting}
use Rattle.subsumption.specs.Entry.{Entry}
use Rattle.subsumption.specs.Entry.TheVariants.{Test}
use Rattle.subsumption.specs.HonestLog.{IsChain}
use Rattle.subsumption.specs.Rows.{Rows, holds}
use Rattle.subsumption.specs.Settled.{IsSettled, IsShownPair}
use Rattle.subsumption.specs.Subsumption.{class_at}
use Rattle.subsumption.specs.TestEnd.TheVariants.{Yes, No}
use Rattle.realizer.specs.Candidates.{has_individual}
use Rattle.realizer.specs.Instances.{instance_query}
use Rattle.realizer.specs.Places.{IsPlaceChain, individual_place, class_place}
use Rattle.realizer.specs.TypeRows.{typed_by}

-- ---- what is shown

-- a test of the query ended with yes
pub record HasYes (log : List Entry) (q : Query) : Type 0 where
  pub tested : Limited
  pub steps : ℕ
  pub enough : Limited
  pub is_yes : Contains log (Test tested q steps (Yes enough))

-- a test ended with no, and this counter-model to its query, which meets the tested axioms, has the individual outside
-- of the class expression; that may be the individual and the class expression of the test, or others
pub record IsModelledOut (o : Listed) (log : List Entry) (c : Concept) (a : ℕ) : Type 0 where
  pub tested : Limited
  pub query : Query
  pub steps : ℕ
  pub is_no : Contains log (Test tested query steps No)
  pub model : ModelLists
  pub refuting : IsRefuting o tested query model
  pub is_out : has_element (meaning model) c ((meaning model).individual a) ≡ false

-- the log shows of each listed individual whether it is in the class expression: a test of it ended with yes, or such a
-- model has it outside
abbrev pub ShowsInstances : Listed → Concept → List Entry → Type 0
ShowsInstances o c log = (a : ℕ) → a < length o.individuals
    → HasYes log (instance_query c a) ⊎ IsModelledOut o log c a

-- the log shows of each listed individual and each listed class whether the one is in the other: a chain of tests that
-- ended with yes leads from the one to the other, or such a model has it outside
abbrev pub ShowsTypes : Listed → List Entry → Type 0
ShowsTypes o log = (a x : ℕ) → a < length o.individuals → x < length o.classes
    → IsPlaceChain log (individual_place a) (class_place (name x)) ⊎ IsModelledOut o log (name x) a

-- the log shows of each two classes whether the one is part of the other
pub record SettlesClasses (o : Listed) (log : List Entry) : Type 0 where
  pub relation : Rows
  pub settled : IsSettled o log relation

-- ---- while it is asked

-- so it is of the first i individuals that are still possible, and of each that is not
pub record ShowsMembers (o : Listed) (c : Concept) (log : List Entry) (i : ℕ) (members : Limited) : Type 0 where
  pub in_them : (a : ℕ) → a < i → a < length o.individuals → has_individual members a ≡ true
      → HasYes log (instance_query c a)
  pub out_of_them : (a : ℕ) → a < length o.individuals → has_individual members a ≡ false → IsModelledOut o log c a

-- a class that is part of the class x has all things, or a test found that the individual is in it
pub record IsShownType (known : Rows) (log : List Entry) (a x : ℕ) : Type 0 where
  pub lower : ℕ
  pub is_part : holds known lower x ≡ true
  pub is_type : (lower ≡ known.count) ⊎ ((lower < known.count) × HasYes log (instance_query (name lower) a))

-- tests show what is known of each two classes; of the first i individuals it is shown which of the classes in
-- their rows they are in, and of each individual that it need not be in the others
pub record ShowsRows (o : Listed) (known : Rows) (log : List Entry) (i : ℕ) (rows : List Limited) : Type 0 where
  pub chains : (x y : ℕ) → x < length o.classes + 2 → y < length o.classes + 2 → holds known x y ≡ true
      → IsChain log (class_at (length o.classes) x) (class_at (length o.classes) y)
  pub pairs : (x y : ℕ) → x < length o.classes + 2 → y < length o.classes + 2 → IsShownPair (length o.classes) log x y
  pub in_rows : (a x : ℕ) → a < i → a < length o.individuals → x < length o.classes → typed_by rows a x ≡ true
      → IsShownType known log a x
  pub out_of_rows : (a x : ℕ) → a < length o.individuals → x < length o.classes → typed_by rows a x ≡ false
      → IsModelledOut o log (name x) a

-- it is shown of each known class of the individual
abbrev pub ShowsKnownTypes : Rows → List Entry → ℕ → Limited → Type 0
ShowsKnownTypes known log a types = (x : ℕ) → x < known.count → has_class types x ≡ true → IsShownType known log a x
