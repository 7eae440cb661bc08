-- One beginning of a run serves many queries.
use Rattle.std.specs.Prelude.{◌≡◌, ℕ, ◌<◌, ◌≤◌, ◌==◌, ◌||◌, Bool, true, false, List, ◌∷◌, ◌++◌, length, Some, All}
use Rattle.std.specs.List.{list_all}
use Rattle.calculus_specs.specs.Normal.{normal_form, negated_form}
use Rattle.calculus_specs.specs.Shape.{Shape, shape_of, IsTable}
use Rattle.calculus_specs.specs.Shape.Shape.{top, some_of, at_least}
use Rattle.calculus_specs.specs.Tree.{tree_of}
use Rattle.calculus_specs.specs.Rows.{Row, IsChoice}
use Rattle.calculus_specs.specs.Rules.{Question}
use Rattle.calculus_specs.specs.declared.facts.Fact.{Fact}
use Rattle.calculus_specs.specs.declared.facts.Fact.TheVariants.{Has}
use Rattle.calculus_specs.specs.Joins.{rep}
use Rattle.calculus_specs.specs.State.{parent_from, label, has}
use Rattle.tableau_specs.specs.declared.Item.{Item}
use Rattle.tableau_specs.specs.Items.{facts_of}
use Rattle.tableau_specs.specs.Steps.{SearchContext, IsSaturated, HasPlainClash}
use Rattle.tableau_specs.specs.Reached.{FactsHaveNumbers, start, Follows, context_of, IsReached}
use Rattle.search_laws.specs.Runs.{IsRun, was_ever, puts_at}
use Rattle.search_laws.specs.ReuseLaws.{IsUnnamed}

-- whether the label of a node has no concept but top and the two of a start
abbrev pub is_inside : ℕ → ℕ → List (Fact ℕ) → ℕ → Bool
is_inside a b fs x = list_all (λ c. c == 0 || c == a || c == b) (label fs x)

-- each node below which another one was made has a concept besides, unless it is one with a first node, which nothing
-- blocks
abbrev pub ParentsHaveMore : ℕ → ℕ → ℕ → List (Fact ℕ) → Type 0
ParentsHaveMore first a b fs = (x p : ℕ) → parent_from first fs x ≡ Some p → first ≤ rep fs p
    → is_inside a b fs p ≡ false

-- The run is a beginning for the start that gives the node `at` the concepts a and b: no trail of the run says more of
-- this node than that it has top, no node with a label inside the start has a node below it but those that are one
-- with a first node, and the start has no clash.
pub record IsBeginning (w : SearchContext) (at a b : ℕ) (run : List (List Item)) : Type 0 where
  pub says_nothing_there : (c : ℕ) → was_ever (puts_at at c) run ≡ true → c ≡ 0
  pub parents_have_more : All (λ trail. ParentsHaveMore w.first a b (facts_of trail)) run
  pub start_is_clear : ¬ HasPlainClash w (start at a b)

-- the trail is the start with top alone and some rest, and k steps reach the other start with this rest
pub record GoesOn (q : Question) (table : List Shape) (rows : List Row) (a b k : ℕ) (trail : List Item) : Type 0 where
  pub rest : List Item
  pub splits : trail ≡ start q.at 0 0 ++ rest
  pub reached : IsReached q table rows k (start q.at a b ++ rest)

-- A search whether anything is in top and not in bottom begins with a node that has top alone. Where no axiom speaks of
-- this node, and its run is a beginning for the start of another query, as many legal steps of the search for that one
-- reach the same trail behind its own start, over the same table or one that has grown since.
abbrev pub OneBeginningServesMany : Type 0
OneBeginningServesMany =
    (q : Question) (table more : List Shape) (rows : List Row) (a b : ℕ) (trail : List Item)
    (earlier : List (List Item))
    → IsTable table → IsTable (table ++ more) → IsChoice q.theory table rows → FactsHaveNumbers q table
    → q.at < q.first → IsUnnamed q
    → a < length (table ++ more) → tree_of (table ++ more) a ≡ normal_form q.sub
    → b < length (table ++ more) → tree_of (table ++ more) b ≡ negated_form q.sup
    → IsRun (context_of q table rows) (start q.at 0 0) (trail ∷ earlier)
    → IsBeginning (context_of q (table ++ more) rows) q.at a b (trail ∷ earlier)
    → GoesOn q (table ++ more) rows a b (length earlier) trail

-- The trail is the start with top alone and some rest, and a run of as many trails goes from the other start to this
-- rest, over a table that has grown. What its trails ever put is what those of the beginning did, and the two facts of
-- its own start. So what was noted of the beginning need not be noted again. Its last trail has no plain clash where
-- that of the beginning has none.
pub record RunsOn (q : Question) (table more : List Shape) (rows : List Row) (a b : ℕ) (trail : List Item)
    (earlier : List (List Item)) : Type 0 where
  pub rest : List Item
  pub splits : trail ≡ start q.at 0 0 ++ rest
  pub before : List (List Item)
  pub is_run : IsRun (context_of q (table ++ more) rows) (start q.at a b) ((start q.at a b ++ rest) ∷ before)
  pub counted : length before ≡ length earlier
  pub puts_same : (p : Fact ℕ → Bool) → p (Has q.at 0) ≡ false
      → was_ever p ((start q.at a b ++ rest) ∷ before)
      ≡ (p (Has q.at a) || (p (Has q.at b) || was_ever p (trail ∷ earlier)))
  pub clear : ¬ HasPlainClash (context_of q table rows) trail
      → ¬ HasPlainClash (context_of q (table ++ more) rows) (start q.at a b ++ rest)

-- Where no axiom speaks of the node in question, and a run is a beginning for another start, the trails of the run,
-- each behind this start, are a run too, over the same table or one that has grown since.
abbrev pub OneBeginningRunsOn : Type 0
OneBeginningRunsOn =
    (q : Question) (table more : List Shape) (rows : List Row) (a b : ℕ) (trail : List Item)
    (earlier : List (List Item))
    → IsTable table → IsChoice q.theory table rows → q.at < q.first → IsUnnamed q
    → IsRun (context_of q table rows) (start q.at 0 0) (trail ∷ earlier)
    → IsBeginning (context_of q (table ++ more) rows) q.at a b (trail ∷ earlier)
    → RunsOn q table more rows a b trail earlier

-- whether a concept of this shape asks for nodes below its node
abbrev pub asks_for_nodes : Shape → Bool
asks_for_nodes (some_of r c) = true
asks_for_nodes (at_least n r c) = true
asks_for_nodes _ = false

-- Where neither concept of a start asks for nodes, each node below which another one was made has a concept besides:
-- the one that asked for it.
abbrev pub ParentsHaveAsked : Type 0
ParentsHaveAsked = (w : SearchContext) (at k a b : ℕ) (trail : List Item) → at < w.first → shape_of w.table 0 ≡ top
    → Follows w (start at 0 0) k trail
    → asks_for_nodes (shape_of w.table a) ≡ false → asks_for_nodes (shape_of w.table b) ≡ false
    → ParentsHaveMore w.first a b (facts_of trail)

-- Where a run ends saturated, and its last trail says no more of the node in question than that it has top, and no
-- axiom speaks of this node, no trail of the run ever said more of it: a row that is used at a node without edges and
-- with top alone is used there in the last trail too.
abbrev pub RunsSayNothingThere : Type 0
RunsSayNothingThere =
    (q : Question) (table : List Shape) (rows : List Row) (trail : List Item) (earlier : List (List Item))
    → IsTable table → q.at < q.first → IsUnnamed q
    → IsRun (context_of q table rows) (start q.at 0 0) (trail ∷ earlier)
    → IsSaturated (context_of q table rows) trail
    → ((c : ℕ) → has (facts_of trail) q.at c ≡ true → c ≡ 0)
    → (c : ℕ) → was_ever (puts_at q.at c) (trail ∷ earlier) ≡ true → c ≡ 0
