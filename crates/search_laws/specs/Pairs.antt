-- The pairs of a role: edges, and chains of edges below a transitive role.
use Rattle.std.specs.Prelude.{◌≡◌, ℕ, true, List}
use Rattle.calculus_specs.specs.declared.facts.Fact.{Fact}
use Rattle.calculus_specs.specs.State.{is_successor}
use Rattle.tableau_specs.specs.Steps.{SearchContext, below_of}
use Rattle.search_laws.specs.Elements.{original}

module _ (w : SearchContext) (fs : List (Fact ℕ)) where
  -- an edge by a role below s leads from the element x to y: it leads from the node that x is like
  abbrev pub LeadsTo : ℕ → ℕ → ℕ → Type 0
  LeadsTo s x y = is_successor fs (λ r. below_of w r s) (original w.first fs x) y ≡ true

  -- one or more edges by roles below t lead from x to y
  pub data IsChain (t : ℕ) : ℕ → ℕ → Type 0 where
    last : (x y : ℕ) → LeadsTo t x y → IsChain t x y
    onward : (x y z : ℕ) → LeadsTo t x y → IsChain t y z → IsChain t x z

  -- the pair (x, y) is one of role s
  pub data IsPair (s : ℕ) : ℕ → ℕ → Type 0 where
    by_edge : (x y : ℕ) → LeadsTo s x y → IsPair s x y
    by_chain : (t x y : ℕ) → w.theory.is_transitive t ≡ true → w.theory.below t s ≡ true → IsChain t x y → IsPair s x y
