-- What a model is made of: the trail of a search that has nothing left to do.
use Rattle.std.specs.Prelude.{ℕ, List}
use Rattle.shq_terms.specs.declared.axioms.Query.{Query}
use Rattle.tableau_specs.specs.declared.Item.{Item}
use Rattle.tableau_specs.specs.Steps.{IsSaturated}
use Rattle.tableau_specs.specs.Reached.{IsReached}
use Rattle.search_rules.specs.RuleLists.{RuleLists, numbers_in, context_in}
use Rattle.search_laws.specs.Theory.{question_in}

-- by some steps a search over these rules reaches the trail, which is saturated
pub record IsSaturatedTrail (r : RuleLists) (q : Query) (trail : List Item) : Type 0 where
  pub steps : ℕ
  pub reached : IsReached (question_in r.ontology (numbers_in r) q) r.table (context_in r).rows steps trail
  pub is_saturated : IsSaturated (context_in r) trail
