-- What follows of instances and types.
use Rattle.std.specs.Prelude.{◌≡◌, ℕ, ◌<◌, List, length}
use Rattle.shq_terms.specs.Concept.{Concept}
use Rattle.shq_terms.specs.Listed.{Listed}
use Rattle.shq_terms.specs.declared.axioms.Query.{Query}
use Rattle.subsumption.specs.Limits.{IsInLimit}
use Rattle.realizer.specs.Instances.{instance_query, AreInstances}
use Rattle.realizer.specs.Realization.{AreTypes}
use Rattle.realizer.specs.declared.types.Types.{Types}

-- where a query is within the limits, so is each question whether a listed individual is in its subclass
abbrev pub InstanceQuestionsAreInLimit : Type 0
InstanceQuestionsAreInLimit = (o : Listed) (q : Query) (a : ℕ) → IsInLimit o q → a < length o.individuals
    → IsInLimit o (instance_query q.sub a)

-- a class expression has one list of instances
abbrev pub InstancesAreOne : Type 0
InstancesAreOne = (o : Listed) (c : Concept) (xs ys : List ℕ) → AreInstances o c xs → AreInstances o c ys → xs ≡ ys

-- and an ontology one realization
abbrev pub TypesAreOne : Type 0
TypesAreOne = (o : Listed) (t u : Types) → AreTypes o t → AreTypes o u → t ≡ u
