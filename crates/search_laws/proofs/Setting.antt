-- What the proofs rest on, and the elements to which edges lead.
use Rattle.std.proofs.Common.{◌≡◌, ℕ, ◌<◌, Bool, true, false, List, Some, sym, subst, arith}
use Rattle.calculus_specs.specs.Shape.{shape_of, IsTable}
use Rattle.calculus_specs.specs.Shape.Shape.{all_of}
use Rattle.calculus_specs.specs.Rows.{Theory}
use Rattle.ontology_limits.specs.Truth.{Interpretation}
use Rattle.calculus_specs.specs.declared.facts.Fact.{Fact}
use Rattle.calculus_specs.specs.Joins.{rep}
use Rattle.calculus_specs.specs.State.{node_count_from, parent_from, has, is_successor, are_apart}
use Rattle.tableau_specs.specs.declared.Block.TheVariants.{Clear, Under}
use Rattle.tableau_specs.specs.declared.Item.{Item}
use Rattle.tableau_specs.specs.Items.{facts_of}
use Rattle.tableau_specs.specs.Blocked.{block_of}
use Rattle.tableau_specs.proofs.PlainClash.{successor_is_node, successor_has_edge}
use Rattle.tableau_specs.specs.Steps.{SearchContext, below_of, IsSaturated}
use Rattle.tableau_specs.specs.Steps.Adds.{by_all}
use Rattle.search_laws.specs.Elements.{is_element, node_at, original}
use Rattle.search_laws.specs.Pairs.{LeadsTo, IsChain, IsPair}
use Rattle.search_laws.specs.Pairs.IsChain.{last, onward}
use Rattle.search_laws.specs.Pairs.IsPair.{by_edge, by_chain}
use Rattle.search_laws.specs.Built.{IsBuilt}
use Rattle.search_laws.specs.CounterModelLaws.{CountsSimple}
use Rattle.search_laws.proofs.Counting.{place, passing_at}
use Rattle.search_laws.proofs.CounterModelNodes.{IsLike, like, successor_is_element, successor_more}

-- the test of roles is an order, as that of a theory of axioms is
pub record IsOrder (theory : Theory) : Type 0 where
  pub itself : (r : ℕ) → theory.below r r ≡ true
  pub through : (r s t : ℕ) → theory.below r s ≡ true → theory.below s t ≡ true → theory.below r t ≡ true

pub record Setting (w : SearchContext) (trail : List Item) (i : Interpretation) : Type 0 where
  pub table : IsTable w.table
  pub less : (x p : ℕ) → parent_from w.first (facts_of trail) x ≡ Some p → p < x
  pub none_under : (roles : ℕ → Bool) (x y : ℕ) → rep (facts_of trail) x ≡ x
      → block_of w.first (facts_of trail) x ≡ Clear → is_successor (facts_of trail) roles x y ≡ true
      → ¬ (block_of w.first (facts_of trail) y ≡ Under)
  pub saturated : IsSaturated w trail
  pub none_apart : (x : ℕ) → are_apart (facts_of trail) x x ≡ false
  pub order : IsOrder w.theory
  pub simple : CountsSimple w (facts_of trail)
  pub built : IsBuilt w (facts_of trail) i

module _ (w : SearchContext) (trail : List Item) (i : Interpretation) (g : Setting w trail i) where
  abbrev fs : List (Fact ℕ)
  fs = facts_of trail

  -- x is an element
  pub record Stands (x : ℕ) : Type 0 where
    pub is_node : x < node_count_from w.first (facts_of trail)
    pub is_one : is_element w.first (facts_of trail) x ≡ true

  pub stands_at : (v : ℕ) → v < i.size → Stands (node_at w.first fs v)
  stands_at v lt =
      let h = passing_at (is_element w.first fs) (node_count_from w.first fs) v (omega (arith, g.built.size_is)) in
      record { is_node = h.0; is_one = h.1 }

  pub like_of : (x : ℕ) → Stands x → IsLike w fs x (original w.first fs x)
  like_of x s = like w fs g.less x s.is_node s.is_one

  -- the number of an element
  pub record Number (x : ℕ) : Type 0 where
    pub number : ℕ
    pub is_within : number < i.size
    pub is_at : node_at w.first (facts_of trail) number ≡ x

  pub number_of : (x : ℕ) → Stands x → Number x
  number_of x s =
      let p = place (is_element w.first fs) (node_count_from w.first fs) x s.is_node s.is_one in
      record { number = p.at; is_within = omega (arith, g.built.size_is, p.is_within); is_at = p.is_there }

  pub next_stands : (s x y : ℕ) → Stands x → LeadsTo w fs s x y → Stands y
  next_stands s x y st lead =
      let o = (like_of x st).is_open in
      let roles : ℕ → Bool = λ r. below_of w r s in
      record {
        is_node = successor_is_node w.first fs roles (original w.first fs x) y lead;
        is_one =
            successor_is_element w.first fs roles (original w.first fs x) y lead
            (g.none_under roles (original w.first fs x) y o.is_rep o.is_clear lead);
      }

  -- an edge below a role is one below each role above it
  pub leads_more : (t s x y : ℕ) → w.theory.below t s ≡ true → LeadsTo w fs t x y → LeadsTo w fs s x y
  leads_more t s x y b lead =
      successor_more fs (λ r. below_of w r t) (λ r. below_of w r s) (λ r h. g.order.through r t s h b)
      (original w.first fs x) y lead

  -- an edge is a pair
  pub edge_pair : (s v y : ℕ) → v < i.size → (n : Number y) → LeadsTo w fs s (node_at w.first fs v) y
      → i.in_role s v n.number ≡ true
  edge_pair s v y lt n lead =
      (g.built.roles_are s v n.number lt n.is_within).1
      (subst (λ (z : ℕ). IsPair w fs s (node_at w.first fs v) z) (sym n.is_at) (by_edge (node_at w.first fs v) y lead))

  -- ---- 'all' along edges

  all_at_edge : (s e c x y : ℕ) → Stands x → has fs (original w.first fs x) c ≡ true → shape_of w.table c ≡ all_of s e
      → LeadsTo w fs s x y → has fs y e ≡ true
  all_at_edge s e c x y st h sh lead =
      let u = original w.first fs x in
      let roles : ℕ → Bool = λ r. below_of w r s in
      g.saturated.no_add y e
      (by_all u y c s e (like_of x st).is_open.is_node (successor_is_node w.first fs roles u y lead) h sh
      (successor_has_edge fs roles u y lead))

  all_carried : (t s e c x y : ℕ) → w.theory.is_transitive t ≡ true → w.theory.below t s ≡ true → Stands x
      → has fs (original w.first fs x) c ≡ true → shape_of w.table c ≡ all_of s e → LeadsTo w fs t x y
      → (d : ℕ) × (shape_of w.table d ≡ all_of t e) × (has fs y d ≡ true)
  all_carried t s e c x y tr b st h sh lead =
      let u = original w.first fs x in
      let roles : ℕ → Bool = λ r. below_of w r t in
      g.saturated.no_carry u y c s t e (record {
        begin_is_node = (like_of x st).is_open.is_node;
        end_is_node = successor_is_node w.first fs roles u y lead;
        holds = h;
        shape = sh;
        transitive = tr;
        role_below = b;
        edge = successor_has_edge fs roles u y lead;
      })

  all_at_chain : (t s e c x y : ℕ) → w.theory.is_transitive t ≡ true → w.theory.below t s ≡ true → Stands x
      → has fs (original w.first fs x) c ≡ true → shape_of w.table c ≡ all_of s e → IsChain w fs t x y
      → has fs y e ≡ true
  all_at_chain t s e c x' y' tr b st h sh (last x y lead) = all_at_edge s e c x y st h sh (leads_more t s x y b lead)
  all_at_chain t s e c x' z' tr b st h sh (onward x y z lead rest) =
      let d = all_carried t s e c x y tr b st h sh lead in
      let sy = next_stands t x y st lead in
      all_at_chain t t e d.0 y z tr (g.order.itself t) sy ((like_of y sy).has_all d.0 d.2) d.1 rest

  -- what is at the end of a pair has what the begin has for all
  pub all_at_pair : (s e c x y : ℕ) → Stands x → has fs (original w.first fs x) c ≡ true
      → shape_of w.table c ≡ all_of s e → IsPair w fs s x y → has fs y e ≡ true
  all_at_pair s e c x' y' st h sh (by_edge x y lead) = all_at_edge s e c x y st h sh lead
  all_at_pair s e c x' y' st h sh (by_chain t x y tr b chain) = all_at_chain t s e c x y tr b st h sh chain
