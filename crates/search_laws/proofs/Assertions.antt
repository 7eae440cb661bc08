-- What axioms assert of individuals is met by the built interpretation, and the element of the node in question is a
-- counter-example.
use Rattle.std.proofs.Common.{◌≡◌, ℕ, ◌+◌, ◌<◌, ◌||◌, ltb, eqb, not, cond, Bool, true, List, length, Some, refl, ap}
use Rattle.std.proofs.Common.{◌∙◌, sym, subst, arith, inl, inr, eq-eqb}
use Rattle.std.specs.List.{list_any}
use Rattle.std.proofs.lemmas.Bool.{cases_lt, and_parts, and_from, eqb-true, ltb-true, lt-ltb, le-ltb}
use Rattle.std.proofs.lemmas.Bool.{false_from_ne_true, not_from_false}
use Rattle.shq_terms.specs.Concept.{Concept}
use Rattle.shq_terms.specs.declared.axioms.On.{On}
use Rattle.shq_terms.specs.declared.axioms.On.TheVariants.{Any, Individual}
use Rattle.shq_terms.specs.declared.axioms.Numbered.{Numbered}
use Rattle.calculus_specs.specs.Tree.{tree_of}
use Rattle.calculus_specs.specs.declared.facts.Fact.{Fact}
use Rattle.calculus_specs.specs.declared.facts.Fact.TheVariants.{Has, Edge, Apart, Same}
use Rattle.calculus_specs.specs.Joins.{rep}
use Rattle.calculus_specs.specs.State.{node_count_from, has, gives_concept, gives_edge, has_edge, is_successor}
use Rattle.calculus_specs.specs.State.{are_apart, is_so}
use Rattle.calculus_specs.specs.Reading.{read_fact, is_fact_listed}
use Rattle.ontology_limits.specs.Truth.{Interpretation, holds, is_asked_at}
use Rattle.ontology_limits.specs.Meeting.{is_true}
use Rattle.refutation_truth.specs.Theory.{nodes_pass, fact_of_axiom, node_in_question}
use Rattle.tableau_specs.specs.declared.Item.{Item}
use Rattle.tableau_specs.specs.Items.{facts_of}
use Rattle.tableau_specs.specs.Clash.IsPlainClash.{plain_differ}
use Rattle.tableau_specs.specs.Steps.{SearchContext, IsGiven, below_of}
use Rattle.tableau_specs.specs.Reached.{HasNumbers}
use Rattle.tableau_specs.proofs.TreeShaped.{first_le}
use Rattle.search_laws.specs.Elements.{node_at, IsNumberOf, original}
use Rattle.search_laws.specs.Pairs.{LeadsTo}
use Rattle.search_laws.specs.Pairs.IsPair.{by_edge}
use Rattle.search_laws.proofs.CounterModelNodes.{successor_more}
use Rattle.search_laws.proofs.First.{rep-rep, first_original, one_number}
use Rattle.search_laws.proofs.AllowedFacts.{given_by}
use Rattle.search_laws.proofs.Setting.{Setting}
use Rattle.search_laws.proofs.Truth.{labels_true}

module _ (w : SearchContext) (trail : List Item) (i : Interpretation) (g : Setting w trail i) where
  abbrev fs : List (Fact ℕ)
  fs = facts_of trail

  -- v is the element that node x is one with
  abbrev IsAt : ℕ → ℕ → Type 0
  IsAt x v = IsNumberOf w.first fs x v

  is_node : (x : ℕ) → x < w.first → x < node_count_from w.first fs
  is_node x lt = omega (arith, lt, first_le w.first fs)

  -- a first node's representative has what the node has
  has_there : (x c : ℕ) → has fs x c ≡ true → has fs (rep fs x) c ≡ true
  has_there x c h = ap (λ (a : ℕ). eqb c 0 || list_any (gives_concept (λ d. eqb d c) (rep fs) a) fs) (rep-rep fs x) ∙ h

  -- the element of a first node is like the representative, and so has its label
  pub first_holds : (x v c : ℕ) → x < w.first → IsAt x v → c < length w.table → has fs x c ≡ true
      → holds i (tree_of w.table c) v ≡ true
  first_holds x v c lt at listed h =
      let like : original w.first fs (node_at w.first fs v) ≡ rep fs x =
      ap (original w.first fs) at.is_there ∙ first_original w.first fs x lt in
      labels_true w trail i g v c (omega (arith, g.built.size_is, at.is_within)) listed
      (ap (λ (a : ℕ). has fs a c) like ∙ has_there x c h)

  -- ---- edges

  by_itself : (r s : ℕ) → eqb s r ≡ true → below_of w s r ≡ true
  by_itself r s e = subst (λ (t : ℕ). below_of w t r ≡ true) (sym (eqb-true s r e)) (g.order.itself r)

  next_there : (r x y : ℕ) → has_edge fs (λ s. eqb s r) x y ≡ true
      → is_successor fs (λ s. eqb s r) (rep fs x) (rep fs y) ≡ true
  next_there r x y h =
      and_from (eqb (rep fs (rep fs y)) (rep fs y)) (has_edge fs (λ s. eqb s r) (rep fs x) (rep fs y))
      (eq-eqb (rep fs (rep fs y)) (rep fs y) (rep-rep fs y))
      ((λ j. list_any (gives_edge (λ s. eqb s r) (rep fs) (rep-rep fs x j) (rep-rep fs y j)) fs) ∙ h)

  edge_true : (r x y v u : ℕ) → x < w.first → IsAt x v → IsAt y u → has_edge fs (λ s. eqb s r) x y ≡ true
      → i.in_role r v u ≡ true
  edge_true r x y v u lt at bt h =
      let next =
      successor_more fs (λ s. eqb s r) (λ s. below_of w s r) (by_itself r) (rep fs x) (rep fs y) (next_there r x y h) in
      let like : original w.first fs (node_at w.first fs v) ≡ rep fs x =
      ap (original w.first fs) at.is_there ∙ first_original w.first fs x lt in
      let lead : LeadsTo w fs r (node_at w.first fs v) (node_at w.first fs u) =
      (λ j. is_successor fs (λ s. below_of w s r) (like j) (bt.is_there j)) ∙ next in
      (g.built.roles_are r v u (omega (arith, g.built.size_is, at.is_within))
      (omega (arith, g.built.size_is, bt.is_within))).1
      (by_edge (node_at w.first fs v) (node_at w.first fs u) lead)

  -- ---- nodes that are apart, and nodes that are one

  apart_true : (x y v u : ℕ) → x < w.first → y < w.first → IsAt x v → IsAt y u → are_apart fs x y ≡ true
      → not (eqb v u) ≡ true
  apart_true x y v u lt mt at bt h = not_from_false (eqb v u) (false_from_ne_true (eqb v u) (λ e.
      let same : rep fs x ≡ rep fs y = sym at.is_there ∙ ap (node_at w.first fs) (eqb-true v u e) ∙ bt.is_there in
      g.saturated.no_clash (plain_differ x y (is_node x lt) (is_node y mt) h same)))

  same_true : (x y v u : ℕ) → IsAt x v → IsAt y u → eqb (rep fs x) (rep fs y) ≡ true → eqb v u ≡ true
  same_true x y v u at bt h = eq-eqb v u (one_number w.first fs x y v u (eqb-true (rep fs x) (rep fs y) h) at bt)

  -- ---- any fact of individuals

  -- individuals have nodes, of which each is a first one
  module _ (k : ℕ) (count_is : w.first ≡ k + 1) where
    at_listed : (x : ℕ) → ltb x k ≡ true → (x < w.first) × IsAt x (i.individual x)
    at_listed x is =
        let lt = ltb-true x k is in (omega (arith, count_is), g.built.individuals_are x (omega (arith, count_is)))

    so_is_true : (f : Fact ℕ) → nodes_pass (λ x. ltb x k) (read_fact (tree_of w.table) f) ≡ true
        → is_fact_listed (length w.table) f ≡ true → is_so fs f ≡ true
        → is_true i i.individual (read_fact (tree_of w.table) f) ≡ true
    so_is_true (Has x c) of_listed listed h =
        let n = at_listed x of_listed in first_holds x (i.individual x) c n.0 n.1 (ltb-true c (length w.table) listed) h
    so_is_true (Edge r x y) of_listed listed h =
        let t = and_parts (ltb x k) (ltb y k) of_listed in
        let n = at_listed x t.0 in
        edge_true r x y (i.individual x) (i.individual y) n.0 n.1 (at_listed y t.1).1 h
    so_is_true (Apart x y) of_listed listed h =
        let t = and_parts (ltb x k) (ltb y k) of_listed in
        let n = at_listed x t.0 in
        let m = at_listed y t.1 in
        apart_true x y (i.individual x) (i.individual y) n.0 m.0 n.1 m.1 h
    so_is_true (Same x y) of_listed listed h =
        let t = and_parts (ltb x k) (ltb y k) of_listed in
        same_true x y (i.individual x) (i.individual y) (at_listed x t.0).1 (at_listed y t.1).1 h

    -- a fact that an axiom gives is so, and so is true
    pub fact_true : (axioms : List Numbered) (ks : List ℕ) (a p : ℕ) (f : Fact Concept) → w.fact_of a p ≡ Some f
        → fact_of_axiom k axioms ks a p ≡ Some f → HasNumbers w.first w.table f → is_true i i.individual f ≡ true
    fact_true axioms ks a p f given e n =
        let is : IsGiven w n.fact = record {
          axiom_number = a;
          place = p;
          is_there = given ∙ ap (λ (h : Fact Concept). Some h) (sym n.reads);
          listed = n.listed;
          on_first = n.on_first;
        } in
        let named =
        subst (λ (h : Fact Concept). nodes_pass (λ x. ltb x k) h ≡ true) (sym n.reads)
        (given_by k axioms ks a p f e).of_listed in
        subst (λ (h : Fact Concept). is_true i i.individual h ≡ true) n.reads
        (so_is_true n.fact named n.listed (g.saturated.no_give n.fact is))

    -- ---- the node in question

    -- a query is on the element that the node in question is one with
    pub asked_there : (on : On) (v : ℕ) → node_in_question k on < w.first → IsAt (node_in_question k on) v
        → is_asked_at i on v ≡ true
    asked_there Any v lt at = refl
    asked_there (Individual a) v lt at = elim (cases_lt a k) [
      | inl less ↦
          let is = lt-ltb a k less in
          let node : node_in_question k (Individual a) ≡ a = ap (λ (b : Bool). cond b a (k + 1)) is in
          let there : IsAt a v = subst (λ (x : ℕ). IsAt x v) node at in
          eq-eqb v (i.individual a) (one_number w.first fs a a v (i.individual a) refl there (at_listed a is).1)
      | inr le ↦
          let node : node_in_question k (Individual a) ≡ k + 1 = ap (λ (b : Bool). cond b a (k + 1)) (le-ltb a k le) in
          absurd (omega (arith, node, lt, count_is))
    ]
