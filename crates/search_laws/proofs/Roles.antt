-- The roles of the built interpretation are met.
use Rattle.std.proofs.Common.{◌≡◌, ℕ, ◌<◌, true, List}
use Rattle.ontology_limits.specs.Truth.{Interpretation}
use Rattle.calculus_specs.specs.declared.facts.Fact.{Fact}
use Rattle.tableau_specs.specs.declared.Item.{Item}
use Rattle.tableau_specs.specs.Items.{facts_of}
use Rattle.tableau_specs.specs.Steps.{SearchContext}
use Rattle.search_laws.specs.Elements.{node_at}
use Rattle.search_laws.specs.Pairs.{IsChain, IsPair}
use Rattle.search_laws.specs.Pairs.IsChain.{last, onward}
use Rattle.search_laws.specs.Pairs.IsPair.{by_edge, by_chain}
use Rattle.search_laws.proofs.Chains.{chain_on}
use Rattle.search_laws.proofs.Setting.{Setting, leads_more}

module _ (w : SearchContext) (trail : List Item) (i : Interpretation) (g : Setting w trail i) where
  abbrev fs : List (Fact ℕ)
  fs = facts_of trail

  chain_more : (t s x y : ℕ) → w.theory.below t s ≡ true → IsChain w fs t x y → IsChain w fs s x y
  chain_more t s x' y' b (last x y lead) = last x y (leads_more w trail i g t s x y b lead)
  chain_more t s x' z' b (onward x y z lead rest) =
      onward x y z (leads_more w trail i g t s x y b lead) (chain_more t s y z b rest)

  -- each pair is a chain of edges
  pub pair_chain : (s x y : ℕ) → IsPair w fs s x y → IsChain w fs s x y
  pair_chain s x' y' (by_edge x y lead) = last x y lead
  pair_chain s x' y' (by_chain t x y tr b chain) = chain_more t s x y b chain

  pair_more : (r s x y : ℕ) → w.theory.below r s ≡ true → IsPair w fs r x y → IsPair w fs s x y
  pair_more r s x' y' b (by_edge x y lead) = by_edge x y (leads_more w trail i g r s x y b lead)
  pair_more r s x' y' b (by_chain t x y tr c chain) = by_chain t x y tr (g.order.through t r s c b) chain

  pair_on : (t x y z : ℕ) → w.theory.is_transitive t ≡ true → IsPair w fs t x y → IsPair w fs t y z → IsPair w fs t x z
  pair_on t x y z tr p q =
      by_chain t x z tr (g.order.itself t) (chain_on w fs t x y z (pair_chain t x y p) (pair_chain t y z q))

  pub upward : (r s : ℕ) → w.theory.below r s ≡ true → (x y : ℕ) → x < i.size → y < i.size → i.in_role r x y ≡ true
      → i.in_role s x y ≡ true
  upward r s b x y lt mt h =
      (g.built.roles_are s x y lt mt).1
      (pair_more r s (node_at w.first fs x) (node_at w.first fs y) b ((g.built.roles_are r x y lt mt).0 h))

  pub passed_on : (t : ℕ) → w.theory.is_transitive t ≡ true → (x y z : ℕ) → x < i.size → y < i.size → z < i.size
      → i.in_role t x y ≡ true → i.in_role t y z ≡ true → i.in_role t x z ≡ true
  passed_on t tr x y z lt mt nt h k =
      (g.built.roles_are t x z lt nt).1
      (pair_on t (node_at w.first fs x) (node_at w.first fs y) (node_at w.first fs z) tr
      ((g.built.roles_are t x y lt mt).0 h) ((g.built.roles_are t y z mt nt).0 k))
