-- What is computed is the built interpretation.
use Rattle.std.proofs.Common.{◌≡◌, ℕ, zero, suc, ◌+◌, ◌<◌, ◌&&◌, cond, Bool, true, List, length, Some, refl, ap, ◌∙◌}
use Rattle.std.proofs.Common.{sym, subst, arith, inl, inr}
use Rattle.std.specs.List.{list_any, range_with_len}
use Rattle.std.proofs.lemmas.Bool.{or_cases, or_left, or_right, and_parts, and_from, lt-ltb, le-ltb}
use Rattle.ontology_limits.specs.Paths.{has_path}
use Rattle.ontology_limits.proofs.Paths.{path-append, path_of_step}
use Rattle.calculus_specs.specs.declared.facts.Fact.{Fact}
use Rattle.calculus_specs.specs.Joins.{rep}
use Rattle.calculus_specs.specs.State.{node_count_from, parent_from, is_successor}
use Rattle.tableau_specs.specs.declared.Block.TheVariants.{Clear, Under}
use Rattle.tableau_specs.specs.Blocked.{block_of}
use Rattle.tableau_specs.proofs.PlainClash.{successor_is_node}
use Rattle.tableau_specs.specs.Steps.{SearchContext, below_of}
use Rattle.search_laws.specs.Elements.{is_element, elements, node_at, IsNumberOf, number_at, original}
use Rattle.search_laws.specs.Pairs.{IsChain, IsPair}
use Rattle.search_laws.specs.Pairs.IsChain.{last, onward}
use Rattle.search_laws.specs.Pairs.IsPair.{by_edge, by_chain}
use Rattle.search_laws.specs.Built.{IsBuilt}
use Rattle.search_laws.specs.Computed.{leads_to, has_chain, has_pair, individual_at, built}
use Rattle.search_laws.proofs.First.{first_number}
use Rattle.search_laws.proofs.Chains.{chain_on}
use Rattle.search_laws.proofs.Counting.{place, passing_at}
use Rattle.search_laws.proofs.CounterModelNodes.{any_in_range, member, IsLike, like, successor_is_element}

module _ (w : SearchContext) (fs : List (Fact ℕ)) (less : (x p : ℕ) → parent_from w.first fs x ≡ Some p → p < x)
    (none_under : (roles : ℕ → Bool) (x y : ℕ) → rep fs x ≡ x → block_of w.first fs x ≡ Clear
    → is_successor fs roles x y ≡ true → ¬ (block_of w.first fs y ≡ Under)) where
  -- a path is a chain
  path_chain : (t k v u : ℕ) → has_path (leads_to w fs t) k v u ≡ true
      → IsChain w fs t (node_at w.first fs v) (node_at w.first fs u)
  path_chain t zero v u h = last (node_at w.first fs v) (node_at w.first fs u) h
  path_chain t (suc k) v u h =
      elim (or_cases (has_path (leads_to w fs t) k v u)
      (has_path (leads_to w fs t) k v k && has_path (leads_to w fs t) k k u) h) [
        | inl p ↦ path_chain t k v u p
        | inr q ↦
            let b = and_parts (has_path (leads_to w fs t) k v k) (has_path (leads_to w fs t) k k u) q in
            chain_on w fs t (node_at w.first fs v) (node_at w.first fs k) (node_at w.first fs u)
            (path_chain t k v k b.0)
            (path_chain t k k u b.1)
      ]

  -- a chain is a path
  chain_path : (t x y v u : ℕ) → v < length (elements w.first fs) → node_at w.first fs v ≡ x → node_at w.first fs u ≡ y
      → IsChain w fs t x y → has_chain w fs t v u ≡ true
  chain_path t x' y' v u lt ex ey (last x y lead) =
      path_of_step (leads_to w fs t) (length (elements w.first fs)) v u
      ((λ j. is_successor fs (λ r. below_of w r t) (original w.first fs (ex j)) (ey j)) ∙ lead)
  chain_path t x' z' v u lt ex ez (onward x y z lead rest) =
      let at = passing_at (is_element w.first fs) (node_count_from w.first fs) v lt in
      let roles : ℕ → Bool = λ r. below_of w r t in
      let o : IsLike w fs x (original w.first fs x) =
      subst (λ (a : ℕ). IsLike w fs a (original w.first fs a)) ex (like w fs less (node_at w.first fs v) at.0 at.1) in
      let yes' =
      successor_is_element w.first fs roles (original w.first fs x) y lead
      (none_under roles (original w.first fs x) y o.is_open.is_rep o.is_open.is_clear lead) in
      let m =
      place (is_element w.first fs) (node_count_from w.first fs) y
      (successor_is_node w.first fs roles (original w.first fs x) y lead) yes' in
      path-append (leads_to w fs t) (length (elements w.first fs)) v m.at u m.is_within
      (path_of_step (leads_to w fs t) (length (elements w.first fs)) v m.at
      ((λ j. is_successor fs roles (original w.first fs (ex j)) (m.is_there j)) ∙ lead))
      (chain_path t y z m.at u m.is_within m.is_there ez rest)

  module _ (limit : ℕ) (within : (t : ℕ) → w.theory.is_transitive t ≡ true → t < limit) where
    -- whether a chain of the transitive role t is a pair of s
    abbrev gives : ℕ → ℕ → ℕ → ℕ → Bool
    gives s v u t = w.theory.is_transitive t && w.theory.below t s && has_chain w fs t v u

    pair_is : (s v u : ℕ) → has_pair w fs limit s v u ≡ true
        → IsPair w fs s (node_at w.first fs v) (node_at w.first fs u)
    pair_is s v u h = elim (or_cases (leads_to w fs s v u) (list_any (gives s v u) (range_with_len 0 limit)) h) [
      | inl lead ↦ by_edge (node_at w.first fs v) (node_at w.first fs u) lead
      | inr any ↦
          let t = member (gives s v u) (range_with_len 0 limit) any in
          let a = and_parts (w.theory.is_transitive t.it && w.theory.below t.it s) (has_chain w fs t.it v u) t.passes in
          let b = and_parts (w.theory.is_transitive t.it) (w.theory.below t.it s) a.0 in
          by_chain t.it (node_at w.first fs v) (node_at w.first fs u) b.0 b.1
          (path_chain t.it (length (elements w.first fs)) v u a.1)
    ]

    is_pair : (s v u x y : ℕ) → v < length (elements w.first fs) → node_at w.first fs v ≡ x → node_at w.first fs u ≡ y
        → IsPair w fs s x y → has_pair w fs limit s v u ≡ true
    is_pair s v u x' y' lt ex ey (by_edge x y lead) =
        or_left (leads_to w fs s v u) (list_any (gives s v u) (range_with_len 0 limit))
        ((λ j. is_successor fs (λ r. below_of w r s) (original w.first fs (ex j)) (ey j)) ∙ lead)
    is_pair s v u x' y' lt ex ey (by_chain t x y tr b chain) =
        or_right (leads_to w fs s v u) (list_any (gives s v u) (range_with_len 0 limit))
        (any_in_range (gives s v u) limit t (within t tr)
        (and_from (w.theory.is_transitive t && w.theory.below t s) (has_chain w fs t v u)
        (and_from (w.theory.is_transitive t) (w.theory.below t s) tr b) (chain_path t x y v u lt ex ey chain)))

    pub computed_is_built : IsBuilt w fs (built w fs limit)
    computed_is_built = record {
      size_is = refl;
      classes_are = λ a v lt. refl;
      roles_are =
          λ s v u lt mt. (pair_is s v u, is_pair s v u (node_at w.first fs v) (node_at w.first fs u) lt refl refl);
      individuals_are = λ a lt.
          let at : individual_at w fs a ≡ number_at w.first fs a =
          ap (λ (b : Bool). cond b (number_at w.first fs a) 0) (lt-ltb (a + 1) w.first lt) in
          subst (λ (v : ℕ). IsNumberOf w.first fs a v) (sym at) (first_number w.first fs a (omega (arith, lt)));
      others_are = λ a le. ap (λ (b : Bool). cond b (number_at w.first fs a) 0) (le-ltb (a + 1) w.first le);
    }
