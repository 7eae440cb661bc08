-- A node below which another one was made has a concept that asked for it.
use Rattle.std.proofs.Common.{◌≡◌, ℕ, ◌||◌, eqb, true, false, List, [], ◌∷◌, ◌++◌, Some, None}
use Rattle.std.proofs.Common.{ap, ◌∙◌, sym, subst, arith, inl, inr, suc}
use Rattle.std.proofs.lemmas.Bool.{or_cases, cases_lt, eqb-true, false_from_ne_true}
use Rattle.calculus_specs.specs.Shape.{shape_of}
use Rattle.calculus_specs.specs.declared.facts.Fact.{Fact}
use Rattle.calculus_specs.specs.declared.facts.Fact.TheVariants.{Has}
use Rattle.calculus_specs.specs.State.{node_count_from, parent_from, has, fresh_facts}
use Rattle.tableau_specs.specs.declared.Item.{Item}
use Rattle.tableau_specs.specs.declared.Item.TheVariants.{Fact as Says, Mark}
use Rattle.tableau_specs.specs.Items.{facts_of}
use Rattle.tableau_specs.specs.Steps.{SearchContext}
use Rattle.tableau_specs.specs.Reached.{start}
use Rattle.tableau_specs.proofs.TreeShaped.{origin_of_parent, parent_of_origin}
use Rattle.search_laws.specs.BeginningLaws.{is_inside, asks_for_nodes, ParentsHaveAsked}
use Rattle.search_laws.specs.KeptSteps.{IsGrown}
use Rattle.search_laws.specs.KeptSteps.IsGrown.{at_first, by_add, by_give, by_make, by_choice}
use Rattle.search_laws.proofs.Grown.{facts_of-append}
use Rattle.search_laws.proofs.Tally.{facts_after}
use Rattle.search_laws.proofs.Asked.{has_stays, by_role, with_concept, IsMaking, making}
use Rattle.search_laws.proofs.Plain.{IsPlain, alternative_plain, given_plain, plain_origin}
use Rattle.search_laws.proofs.Children.{old_parent, new_parent}
use Rattle.search_laws.proofs.KeptSteps.{keeping}
use Rattle.search_laws.proofs.FullerBlocks.{inside_each}

module _ (w : SearchContext) where
  -- the node has a concept that asks for nodes
  pub record HasAsked (fs : List (Fact ℕ)) (p : ℕ) : Type 0 where
    pub by : ℕ
    pub holds : has fs p by ≡ true
    pub asks : asks_for_nodes (shape_of w.table by) ≡ true

  abbrev pub HaveAsked : List (Fact ℕ) → Type 0
  HaveAsked fs = (x p : ℕ) → parent_from w.first fs x ≡ Some p → HasAsked fs p

  asked_still : (fs gs : List (Fact ℕ)) (p : ℕ) → HasAsked fs p → HasAsked (fs ++ gs) p
  asked_still fs gs p h = record { by = h.by; holds = has_stays fs gs p h.by h.holds; asks = h.asks }

  asked_more : (fs : List (Fact ℕ)) (f : Fact ℕ) → IsPlain w.first f → HaveAsked fs → HaveAsked (fs ++ f ∷ [])
  asked_more fs f plain h x p e =
      let o = origin_of_parent w.first (fs ++ f ∷ []) x p e in
      asked_still fs (f ∷ []) p
      (h x p (parent_of_origin w.first fs x p o.0 (sym (plain_origin w.first fs f plain x o.0) ∙ o.1)))

  maker_asks : (fs new : List (Fact ℕ)) (k : IsMaking w fs new) → asks_for_nodes (shape_of w.table k.by) ≡ true
  maker_asks fs new k = elim k.is_shape [ inl one ↦ ap asks_for_nodes one | inr many' ↦ ap asks_for_nodes many' ]

  asked_make : (fs new : List (Fact ℕ)) (k : IsMaking w fs new) → HaveAsked fs → HaveAsked (fs ++ new)
  asked_make fs new k h x p e =
      let s = by_role (shape_of w.table k.by) in
      let c = with_concept (shape_of w.table k.by) in
      let fresh = fresh_facts k.at s c (node_count_from w.first fs) (suc k.more) in
      let e' : parent_from w.first (fs ++ fresh) x ≡ Some p =
      subst (λ (gs : List (Fact ℕ)). parent_from w.first (fs ++ gs) x ≡ Some p) k.is_new e in
      let o = origin_of_parent w.first (fs ++ fresh) x p e' in
      elim (cases_lt x (node_count_from w.first fs)) [
        | inl low ↦
            asked_still fs new p
            (h x p (parent_of_origin w.first fs x p o.0 (sym (old_parent w.first fs k.at s c k.more x low) ∙ o.1)))
        | inr high ↦
            let same : p ≡ k.at = new_parent w.first fs k.at s c k.more x p (omega (arith, high)) o.1 in
            subst (HasAsked (fs ++ new)) (sym same)
            (asked_still fs new k.at (record { by = k.by; holds = k.holds; asks = maker_asks fs new k }))
      ]

  pub asked : (at a b : ℕ) (ns : List ℕ) (trail : List Item) → IsGrown w (start at a b) ns trail
      → HaveAsked (facts_of trail)
  asked at a b ns trail at_first =
      λ x p e.
      (let o = origin_of_parent w.first (facts_of (start at a b)) x p e in
      let k : None ≡ Some p = o.1 in
      absurd (cc))
  asked at a b ns trail (by_add ms old y d g adds out) =
      subst HaveAsked (sym (facts_after old (Has y d ∷ [])))
      (asked_more (facts_of old) (Has y d) tt (asked at a b ms old g))
  asked at a b ns trail (by_give ms old f g is_given out) =
      subst HaveAsked (sym (facts_after old (f ∷ [])))
      (asked_more (facts_of old) f (given_plain w f is_given) (asked at a b ms old g))
  asked at a b ns trail (by_make ms old new g makes) =
      subst HaveAsked (sym (facts_after old new))
      (asked_make (facts_of old) new (making w (facts_of old) new makes) (asked at a b ms old g))
  asked at a b ns trail (by_choice ms old c f g may alt) =
      let e : facts_of (old ++ Mark c ∷ Says f ∷ []) ≡ facts_of old ++ f ∷ [] =
      facts_of-append old (Mark c ∷ Says f ∷ []) in
      subst HaveAsked (sym e)
      (asked_more (facts_of old) f (alternative_plain w.first w.table c.branch c.alternative f alt)
      (asked at a b ms old g))

pub parents_have_asked : ParentsHaveAsked
parents_have_asked w at k a b trail lt begins r none_a none_b x p e above =
    let fs = facts_of trail in
    let h = asked w at 0 0 (keeping w at 0 0 k trail r).numbers trail (keeping w at 0 0 k trail r).grown x p e in
    false_from_ne_true (is_inside a b fs p) (λ inside.
    elim (or_cases (eqb h.by 0 || eqb h.by a) (eqb h.by b) (inside_each a b fs p h.by inside h.holds)) [
      | inr two ↦ not_asked h.by b (eqb-true h.by b two) h.asks none_b
      | inl first ↦ elim (or_cases (eqb h.by 0) (eqb h.by a) first) [
        | inl none ↦ not_asked h.by 0 (eqb-true h.by 0 none) h.asks (ap asks_for_nodes begins)
        | inr one ↦ not_asked h.by a (eqb-true h.by a one) h.asks none_a
      ]
    ])
  where
    not_asked : (c d : ℕ) → c ≡ d → asks_for_nodes (shape_of w.table c) ≡ true
        → asks_for_nodes (shape_of w.table d) ≡ false
        → ⊥
    not_asked c d same yes' no' =
        (let k = ap (λ (n : ℕ). asks_for_nodes (shape_of w.table n)) same in cc)
