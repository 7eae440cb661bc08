-- What one run shows of other queries.
use Rattle.std.specs.Prelude.{◌≡◌, ◌⊎◌, ℕ, ◌-◌, ◌<◌, ◌≤◌, ◌||◌, ◌==◌, not, Bool, true, List, [], ◌∷◌, ◌++◌, length}
use Rattle.std.specs.Prelude.{drop, Some}
use Rattle.std.specs.List.{list_any}
use Rattle.shq_terms.specs.declared.axioms.Numbered.{Numbered}
use Rattle.shq_terms.specs.declared.axioms.Query.{Query}
use Rattle.shq_terms.specs.declared.axioms.On.TheVariants.{Any}
use Rattle.calculus_specs.specs.Concept.{Concept, top, name}
use Rattle.calculus_specs.specs.Normal.{normal_form}
use Rattle.calculus_specs.specs.Shape.{Shape, IsTable}
use Rattle.calculus_specs.specs.Shape.Shape.{not_name}
use Rattle.calculus_specs.specs.Tree.{tree_of}
use Rattle.calculus_specs.specs.Rows.{Row, IsChoice}
use Rattle.calculus_specs.specs.Rules.{Question}
use Rattle.calculus_specs.specs.declared.facts.Fact.{Fact}
use Rattle.tableau_specs.specs.declared.Item.{Item}
use Rattle.tableau_specs.specs.Items.{facts_of}
use Rattle.tableau_specs.specs.Steps.{SearchContext, IsLegal, IsSaturated}
use Rattle.tableau_specs.specs.Reached.{FactsHaveNumbers, start, context_of, IsReached}
use Rattle.refutation_truth.specs.Theory.{nodes_pass, question_of}
use Rattle.search_laws.specs.Runs.{IsRun, LeavesOut, LeavesOutAt}

-- k legal steps reach a saturated trail by these rows, over this table or one with the complement of class a besides
pub record EndsSaturated (table : List Shape) (rows : List Row) (a : ℕ) (q : Question) (k : ℕ) : Type 0 where
  pub longer : List Shape
  pub is_longer : (longer ≡ table) ⊎ (longer ≡ table ++ not_name a ∷ [])
  pub trail : List Item
  pub reached : IsReached q longer rows k trail
  pub is_saturated : IsSaturated (context_of q longer rows) trail

-- no axiom gives a fact of the node in question
abbrev pub IsUnnamed : Question → Type 0
IsUnnamed q = (a p : ℕ) (f : Fact Concept) → q.fact_of a p ≡ Some f → nodes_pass (λ x. not (x == q.at)) f ≡ true

-- a query on any element asks of such a node
abbrev pub AnyIsUnnamed : Type 0
AnyIsUnnamed = (n : ℕ) (axioms : List Numbered) (ks : List ℕ) (q : Query) → q.on ≡ Any
    → IsUnnamed (question_of n axioms ks q)

-- the same question of another concept on the right
abbrev pub with_sup : Question → Concept → Question
with_sup q sup = record { theory = q.theory; sub = q.sub; sup = sup; first = q.first; at = q.at; fact_of = q.fact_of }

-- A search whether anything is in `sub` begins with a node that is in `sub` and in top. Where no axiom speaks of that
-- node, and its run ends saturated and has nothing to do with whether the node is in class a, as many legal steps end
-- saturated in the search whether `sub` is in a, by the same rows and over the same table, or one with the complement
-- of a besides.
abbrev pub OneRunAnswersMore : Type 0
OneRunAnswersMore =
    (q : Question) (table : List Shape) (rows : List Row) (number k a : ℕ) (trail : List Item)
    (earlier : List (List Item))
    → IsTable table → IsChoice q.theory table rows → FactsHaveNumbers q table → q.at < q.first → IsUnnamed q
    → number < length table → tree_of table number ≡ normal_form q.sub
    → IsRun (context_of q table rows) (start q.at number 0) (trail ∷ earlier) → length earlier ≡ k
    → IsSaturated (context_of q table rows) trail → LeavesOut q.first q.at table (trail ∷ earlier) a
    → EndsSaturated table rows a (with_sup q (name a)) k

-- the question whether what first node `at` stands for is in `sup`
abbrev pub about : Question → ℕ → Concept → Question
about q at sup =
    record { theory = q.theory; sub = top; sup = sup; first = q.first; at = at; fact_of = q.fact_of }

-- A search whether anything is in top and not in bottom begins at a node that is in top. Where its run ends saturated
-- and has nothing to do with whether the individual of another first node is in class a, as many legal steps end
-- saturated in the search whether that individual is in a.
abbrev pub OneRunAnswersOfIndividuals : Type 0
OneRunAnswersOfIndividuals =
    (q : Question) (table : List Shape) (rows : List Row) (k at a : ℕ) (trail : List Item) (earlier : List (List Item))
    → IsTable table → IsChoice q.theory table rows → FactsHaveNumbers q table → at < q.first
    → IsRun (context_of q table rows) (start q.at 0 0) (trail ∷ earlier) → length earlier ≡ k
    → IsSaturated (context_of q table rows) trail → LeavesOutAt q.first at table (trail ∷ earlier) a
    → EndsSaturated table rows a (about q at (name a)) k

-- What a legal step puts into a trail stands at its end: from any place on that is neither past the end of the old
-- trail nor past the last item of the new one. So who has noted all facts of the old trail need look no further back.
abbrev pub StepsPutLast : Type 0
StepsPutLast = (w : SearchContext) (old new : List Item) → IsLegal w old new → (place : ℕ) → place ≤ length old
    → place ≤ length new - 1
    → (p : Fact ℕ → Bool)
    → (list_any p (facts_of new) || list_any p (facts_of old))
    ≡ (list_any p (facts_of (drop place new)) || list_any p (facts_of old))
