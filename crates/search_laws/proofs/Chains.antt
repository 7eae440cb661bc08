-- Chains of edges.
use Rattle.std.proofs.Common.{◌≡◌, ℕ, Bool, true, List}
use Rattle.calculus_specs.specs.declared.facts.Fact.{Fact}
use Rattle.tableau_specs.specs.Steps.{SearchContext}
use Rattle.search_laws.specs.Pairs.{LeadsTo, IsChain}
use Rattle.search_laws.specs.Pairs.IsChain.{last, onward}

-- a set that has what edges from x lead to, and what edges from its members do, has the end of each chain from x
pub chain_within : (w : SearchContext) (fs : List (Fact ℕ)) (t : ℕ) (s : ℕ → Bool)
    → ((y z : ℕ) → s y ≡ true → LeadsTo w fs t y z → s z ≡ true)
    → (x y : ℕ) → ((z : ℕ) → LeadsTo w fs t x z → s z ≡ true) → IsChain w fs t x y → s y ≡ true
chain_within w fs t s closed x' y' from (last x y lead) = from y lead
chain_within w fs t s closed x' z' from (onward x y z lead rest) =
    chain_within w fs t s closed y z (λ v next. closed y v (from y lead) next) rest

-- two chains that meet are one
pub chain_on : (w : SearchContext) (fs : List (Fact ℕ)) (t x y z : ℕ) → IsChain w fs t x y → IsChain w fs t y z
    → IsChain w fs t x z
chain_on w fs t x' y' v (last x y lead) more = onward x y v lead more
chain_on w fs t x' z' v (onward x y z lead rest) more = onward x y v lead (chain_on w fs t y z v rest more)

pub first_edge : (w : SearchContext) (fs : List (Fact ℕ)) (t x y : ℕ) → IsChain w fs t x y
    → (z : ℕ) × LeadsTo w fs t x z
first_edge w fs t x' y' (last x y lead) = (y, lead)
first_edge w fs t x' y' (onward x y z lead rest) = (y, lead)
