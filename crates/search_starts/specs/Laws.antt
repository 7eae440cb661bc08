-- A search for a counter-example to a query in limit can begin. So each question is decided, by a closed tableau or a
-- finite counter-model, and what is entailed follows in every world.
use Rattle.std.specs.Prelude.{◌↔◌, ℕ, List}
use Rattle.role_box.specs.Listed.{Listed}
use Rattle.role_box.specs.Axiom.{Axiom}
use Rattle.role_box.specs.Query.{Query}
use Rattle.role_box.specs.Shape.{Shape}
use Rattle.role_box.specs.TheoryRows.{Row}
use Rattle.refutation_truth.specs.Truth.{Interpretation, PlacesIndividuals, Entails}
use Rattle.refutation_truth.specs.Theory.{named_axioms, question_in}
use Rattle.search_laws.specs.Limits.{IsInLimit}
use Rattle.search_laws.specs.CounterModelLaws.{IsCounterModel}
use Rattle.all_worlds.specs.Worlds.{World, FollowsIn}
use Rattle.all_worlds.specs.Finite.{world_of}
use Rattle.guided_search.specs.ClosedTableau.{HasClosedTableau}
use Rattle.guided_search.specs.Laws.{CanBegin}

-- it is not so that over each table and all rows the search cannot begin
abbrev pub SearchesCanBegin : Type 0
SearchesCanBegin = (o : Listed) (ks : List ℕ) (q : Query) → IsInLimit o q
    → ¬ ((table : List Shape) (rows : List Row) → ¬ CanBegin (question_in o ks q) table rows)

-- ---- closed tableaux and counter-models

-- neither does the question of the query have a closed tableau, nor the query a finite counter-model
pub record IsUndecided (o : Listed) (ks : List ℕ) (q : Query) : Type 0 where
  pub no_tableau : ¬ HasClosedTableau (question_in o ks q)
  pub no_counter_model : (i : Interpretation) → ¬ IsCounterModel o ks q i

-- each query in limit has a closed tableau or a finite counter-model: it is not so that it has neither
abbrev pub EachQuestionIsDecided : Type 0
EachQuestionIsDecided = (o : Listed) (ks : List ℕ) (q : Query) → IsInLimit o q → ¬ IsUndecided o ks q

-- axioms in limit entail just the queries whose questions do not lack a closed tableau
abbrev pub EntailedIsWhatCloses : Type 0
EntailedIsWhatCloses = (o : Listed) (ks : List ℕ) (q : Query) → IsInLimit o q
    → Entails (named_axioms o.axioms ks) q ↔ (¬ ¬ HasClosedTableau (question_in o ks q))

-- ---- worlds

-- what axioms in limit entail follows from them in the world
abbrev pub EntailedFollowsIn : {d : Type 0} → World d → Type 0
EntailedFollowsIn w = (o : Listed) (ks : List ℕ) (q : Query) → IsInLimit o q → Entails (named_axioms o.axioms ks) q
    → FollowsIn w (named_axioms o.axioms ks) q

-- the query follows from the axioms in the world, and in that of each finite interpretation
abbrev pub FollowsInAll : {d : Type 0} → World d → List Axiom → Query → Type 0
FollowsInAll w axioms q = FollowsIn w axioms q
    × ((i : Interpretation) (placed : PlacesIndividuals i) → FollowsIn (world_of i placed) axioms q)

-- axioms in limit entail just what follows from them so
abbrev pub EntailedIsWhatFollowsIn : {d : Type 0} → World d → Type 0
EntailedIsWhatFollowsIn w = (o : Listed) (ks : List ℕ) (q : Query) → IsInLimit o q
    → Entails (named_axioms o.axioms ks) q ↔ FollowsInAll w (named_axioms o.axioms ks) q
