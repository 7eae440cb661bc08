-- What closed tableaux show, and that what is entailed follows in a world, wherever a search for a counter-example can
-- begin.
use Rattle.std.specs.Prelude.{ℕ, List}
use Rattle.role_box.specs.Numbered.{Numbered}
use Rattle.role_box.specs.Listed.{Listed}
use Rattle.role_box.specs.Query.{Query}
use Rattle.role_box.specs.Shape.{Shape}
use Rattle.role_box.specs.TheoryRows.{Row}
use Rattle.role_box.specs.Rules.{Question}
use Rattle.refutation_truth.specs.Truth.{Interpretation, Entails}
use Rattle.refutation_truth.specs.Theory.{named_axioms, question_of, question_in}
use Rattle.search_laws.specs.Limits.{IsInLimit}
use Rattle.search_laws.specs.CounterModelLaws.{IsCounterModel}
use Rattle.tableau_specs.specs.declared.Item.{Item}
use Rattle.tableau_specs.specs.Reached.{context_of, IsReached}
use Rattle.absorption.specs.ClosureLaws.{IsClosedFor}
use Rattle.all_worlds.specs.Worlds.{World, FollowsIn}
use Rattle.guided_search.specs.ClosedTableau.{HasClosedTableau}

-- ---- closed tableaux

-- where the question of a query has a closed tableau, with however many individuals that are listed, the query follows
-- from the named axioms in the world
abbrev pub ClosedTableauxHoldIn : {d : Type 0} → World d → Type 0
ClosedTableauxHoldIn w = (k : ℕ) (axioms : List Numbered) (ks : List ℕ) (q : Query)
    → HasClosedTableau (question_of k axioms ks q) → FollowsIn w (named_axioms axioms ks) q

-- the named axioms entail a query whose question has a closed tableau
abbrev pub ClosedTableauxEntail : Type 0
ClosedTableauxEntail = (k : ℕ) (axioms : List Numbered) (ks : List ℕ) (q : Query)
    → HasClosedTableau (question_of k axioms ks q) → Entails (named_axioms axioms ks) q

-- a query whose question has a closed tableau has no finite counter-model
abbrev pub ClosedTableauxExcludeCounterModels : Type 0
ClosedTableauxExcludeCounterModels = (o : Listed) (ks : List ℕ) (q : Query) (i : Interpretation)
    → HasClosedTableau (question_in o ks q) → ¬ IsCounterModel o ks q i

-- ---- where a search can begin

-- a search for what is in question can begin, over a table that has what it can need
pub record CanBegin (q : Question) (table : List Shape) (rows : List Row) : Type 0 where
  pub trail : List Item
  pub begun : IsReached q table rows 0 trail
  pub closed : IsClosedFor (context_of q table rows)

-- what axioms entail follows from them in the world, where a search for a counter-example can begin
abbrev pub EntailedFollowsIn : {d : Type 0} → World d → Type 0
EntailedFollowsIn w = (o : Listed) (ks : List ℕ) (q : Query) (table : List Shape) (rows : List Row) → IsInLimit o q
    → CanBegin (question_in o ks q) table rows → Entails (named_axioms o.axioms ks) q
    → FollowsIn w (named_axioms o.axioms ks) q
