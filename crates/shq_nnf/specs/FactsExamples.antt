-- Worked examples of the facts of assertions. Class names are numbers from 10, individuals from 0.
use Rattle.std.specs.Prelude.{◌≡◌, [], ◌∷◌, Some, None, refl}
use Rattle.shq_meaning.specs.Concept.{name, complement, some_of, all_of}
use Rattle.shq_meaning.specs.Axiom.{Axiom}
use Rattle.shq_meaning.specs.Axiom.TheVariants.{SubClassOf, Member, Pair, SameAll, Different}
use Rattle.calculus_specs.specs.declared.facts.Fact.TheVariants.{Has, Edge, Apart, Same}
use Rattle.shq_nnf.specs.Facts.{facts_of, fact_at}

-- a member has one fact, in negation normal form
pub member_fact : fact_at (Member (complement (some_of 0 (name 10))) 3) 1
    ≡ Some (Has 3 (all_of 0 (complement (name 10))))
member_fact = refl

pub no_second_member : fact_at (Member (name 10) 3) 2 ≡ None
no_second_member = refl

pub no_fact_zero : fact_at (Member (name 10) 3) 0 ≡ None
no_fact_zero = refl

pub pair_fact : facts_of (Pair 1 2 0) ≡ Edge 1 2 0 ∷ []
pair_fact = refl

-- n individuals that are the same have n - 1 facts
pub same_neighbours : facts_of (SameAll (2 ∷ 0 ∷ 2 ∷ 1 ∷ [])) ≡ Same 2 0 ∷ Same 0 2 ∷ Same 2 1 ∷ []
same_neighbours = refl

pub last_same : fact_at (SameAll (2 ∷ 0 ∷ 2 ∷ 1 ∷ [])) 3 ≡ Some (Same 2 1)
last_same = refl

pub no_more_same : fact_at (SameAll (2 ∷ 0 ∷ 2 ∷ 1 ∷ [])) 4 ≡ None
no_more_same = refl

-- n that are different have one for each two, ordered by the first and then by the second
pub different_pairs : facts_of (Different (4 ∷ 3 ∷ 9 ∷ 4 ∷ []))
    ≡ Apart 4 3 ∷ Apart 4 9 ∷ Apart 4 4 ∷ Apart 3 9 ∷ Apart 3 4 ∷ Apart 9 4 ∷ []
different_pairs = refl

abbrev five : Axiom
five = Different (0 ∷ 1 ∷ 2 ∷ 3 ∷ 4 ∷ [])

pub fourth_of_five : fact_at five 4 ≡ Some (Apart 0 4)
fourth_of_five = refl

pub fifth_of_five : fact_at five 5 ≡ Some (Apart 1 2)
fifth_of_five = refl

pub last_of_five : fact_at five 10 ≡ Some (Apart 3 4)
last_of_five = refl

pub no_more_of_five : fact_at five 11 ≡ None
no_more_of_five = refl

-- an axiom of classes has none
pub none_of_classes : fact_at (SubClassOf (name 10) (name 11)) 1 ≡ None
none_of_classes = refl
