-- Trails that a search can reach, and what a decision costs.
use Rattle.std.specs.Prelude.{◌≡◌, ℕ, zero, suc, ◌<◌, ◌⊎◌, true, List, [], ◌∷◌, length, Some}
use Rattle.calculus_specs.specs.Concept.{Concept}
use Rattle.calculus_specs.specs.Normal.{normal_form, negated_form}
use Rattle.calculus_specs.specs.Shape.{Shape, IsTable}
use Rattle.calculus_specs.specs.Tree.{tree_of}
use Rattle.calculus_specs.specs.Rows.{Row, IsChoice}
use Rattle.calculus_specs.specs.declared.facts.Fact.{Fact}
use Rattle.calculus_specs.specs.declared.facts.Fact.TheVariants.{Has}
use Rattle.calculus_specs.specs.State.{speaks_below}
use Rattle.calculus_specs.specs.Reading.{read_fact, is_fact_listed}
use Rattle.calculus_specs.specs.Rules.{Question}
use Rattle.tableau_specs.specs.declared.Item.{Item}
use Rattle.tableau_specs.specs.declared.Item.TheVariants.{Fact as Says}
use Rattle.tableau_specs.specs.Steps.{SearchContext, IsLegal, IsSaturated, HasClash}

-- the trail of `start`: the first node in question has two concepts
abbrev pub start : ℕ → ℕ → ℕ → List Item
start at sub not_sup = Says (Has at sub) ∷ Says (Has at not_sup) ∷ []

-- the trail comes from the first by k steps
abbrev pub Follows : SearchContext → List Item → ℕ → List Item → Type 0
Follows w first zero trail = trail ≡ first
Follows w first (suc k) trail = (before : List Item) × Follows w first k before × IsLegal w before trail

-- ---- given facts

-- the fact has a number for its concept, if it has one, and speaks of first nodes alone
pub record HasNumbers (first : ℕ) (table : List Shape) (f : Fact Concept) : Type 0 where
  pub fact : Fact ℕ
  pub reads : read_fact (tree_of table) fact ≡ f
  pub listed : is_fact_listed (length table) fact ≡ true
  pub on_first : speaks_below first fact ≡ true

-- each fact that an axiom gives does
abbrev pub FactsHaveNumbers : Question → List Shape → Type 0
FactsHaveNumbers q table = (a p : ℕ) (f : Fact Concept) → q.fact_of a p ≡ Some f → HasNumbers q.first table f

-- ---- searches

-- the context of a search for a question, over a table of concepts and some rows
abbrev pub context_of : Question → List Shape → List Row → SearchContext
context_of q table rows = record { theory = q.theory; table = table; rows = rows; first = q.first; fact_of = q.fact_of }

-- by k steps over this table and these rows, a search for what is in question reaches the trail
pub record IsReached (q : Question) (table : List Shape) (rows : List Row) (k : ℕ) (trail : List Item) : Type 0 where
  pub is_table : IsTable table
  pub is_choice : IsChoice q.theory table rows
  pub facts_have_numbers : FactsHaveNumbers q table
  pub at_first : q.at < q.first
  pub sub_number : ℕ
  pub sub_listed : sub_number < length table
  pub sub_reads : tree_of table sub_number ≡ normal_form q.sub
  pub not_sup_number : ℕ
  pub not_sup_listed : not_sup_number < length table
  pub not_sup_reads : tree_of table not_sup_number ≡ negated_form q.sup
  pub follows : Follows (context_of q table rows) (start q.at sub_number not_sup_number) k trail

-- k steps decide: they reach a trail that is saturated, or one with a clash where the answer is yes
pub record Costs (q : Question) (IsEntailed : Type 0) (k : ℕ) : Type 0 where
  pub table : List Shape
  pub rows : List Row
  pub trail : List Item
  pub reached : IsReached q table rows k trail
  pub ends : IsSaturated (context_of q table rows) trail ⊎ (HasClash (context_of q table rows) trail × IsEntailed)
