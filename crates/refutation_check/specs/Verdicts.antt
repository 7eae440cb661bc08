-- When a refutation is valid over a set of axioms, and where it breaks the rules.
use Rattle.std.specs.Prelude.{ℕ, zero, suc}
use Rattle.axiom_sets.specs.NumberSets.{IsPart}
use Rattle.axiom_sets.specs.Sets.{Limited, member_list}
use Rattle.shq_terms.specs.Listed.{Listed}
use Rattle.shq_terms.specs.declared.axioms.Query.{Query}
use Rattle.calculus_specs.specs.Rules.{Question}
use Rattle.calculus_specs.specs.Valid.{concept_at, IsBrokenAt, IsRefutation}
use Rattle.refutation_rules.specs.Theory.{question_in}
use Rattle.refutation_rules.specs.RefutationLists.{RefutationLists}
use Rattle.refutation_check.specs.declared.checking.Verdict.{Verdict}
use Rattle.refutation_check.specs.declared.checking.Verdict.TheVariants.{Accepted, Rejected}

-- what the refutation is of: the query, over the individuals of the ontology and the axioms that it names
abbrev pub named_question : Listed → Query → RefutationLists → Question
named_question o query r = question_in o (member_list r.axioms) query

-- the axioms that the refutation names are in the set, and its lines refute the query over these
pub record IsValid (o : Listed) (set : Limited) (query : Query) (r : RefutationLists) : Type 0 where
  pub named : IsPart r.axioms.members set.members
  pub refutes : IsRefutation (named_question o query r) r.shapes r.lines

-- its axioms are in the set, and its lines break the rules first at this place, from 1
pub record IsBroken (o : Listed) (set : Limited) (query : Query) (r : RefutationLists) (place : ℕ) : Type 0 where
  pub named : IsPart r.axioms.members set.members
  pub breaks : IsBrokenAt (named_question o query r) (concept_at r.shapes) r.lines place

-- place 0 says that some axiom that is named is not in the set
abbrev pub IsRejectedAt : Listed → Limited → Query → RefutationLists → ℕ → Type 0
IsRejectedAt o set query r zero = IsPart r.axioms.members set.members → ⊥
IsRejectedAt o set query r (suc place) = IsBroken o set query r (suc place)

-- the verdict is right: the refutation is valid over the set, or breaks the rules first at this place
abbrev pub IsJudgedAs : Listed → Limited → Query → RefutationLists → Verdict → Type 0
IsJudgedAs o set query r Accepted = IsValid o set query r
IsJudgedAs o set query r (Rejected place) = IsRejectedAt o set query r place
