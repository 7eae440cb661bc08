-- The node in question is no successor, and joined to no other node, where no given fact speaks of it.
use Rattle.std.proofs.Common.{◌≡◌, ℕ, ◌<◌, ◌⊎◌, ◌||◌, min, eqb, cond, Bool, true, List, [], ◌∷◌, ◌++◌, refl, ap, ◌∙◌}
use Rattle.std.proofs.Common.{sym, arith, inl, inr}
use Rattle.std.proofs.lemmas.Bool.{cases_Bool, ne_eqb}
use Rattle.calculus_specs.specs.declared.facts.Fact.{Fact}
use Rattle.calculus_specs.specs.declared.facts.Fact.TheVariants.{Has, Edge, Apart, Same}
use Rattle.calculus_specs.specs.Joins.{rep, merged}
use Rattle.calculus_specs.specs.State.{has_edge}
use Rattle.calculus_specs.proofs.Joined.{rep-snoc}
use Rattle.tableau_specs.specs.declared.Item.{Item}
use Rattle.tableau_specs.specs.declared.Item.TheVariants.{Fact as Says}
use Rattle.tableau_specs.specs.Items.{facts_of}
use Rattle.tableau_specs.specs.StepLaws.{any_role, AreSiblings}
use Rattle.tableau_specs.specs.Steps.{SearchContext, IsGiven}
use Rattle.tableau_specs.proofs.Built.{Supports, IsBuilt, built_facts}
use Rattle.tableau_specs.proofs.PlainClash.{successor_has_edge}
use Rattle.tableau_specs.proofs.TreeShaped.{IsTreeShaped, tree_shaped_none, tree_shaped_after}
use Rattle.tableau_specs.proofs.Legal.{any_edge, given_on_first}

-- the fact does not speak of the node
abbrev pub Avoids : ℕ → Fact ℕ → Type 0
Avoids at (Has x c) = ¬ (x ≡ at)
Avoids at (Edge r x y) = ¬ (x ≡ at) × ¬ (y ≡ at)
Avoids at (Apart x y) = ¬ (x ≡ at) × ¬ (y ≡ at)
Avoids at (Same x y) = ¬ (x ≡ at) × ¬ (y ≡ at)

min_other : (b c at : ℕ) → ¬ (b ≡ at) → ¬ (c ≡ at) → ¬ (min b c ≡ at)
min_other b c at nb nc e = grind (arith, nb, nc, e)

-- where neither of the joined ones is the node, the node alone stays it
pub merged_root : (b c p at : ℕ) → ¬ (b ≡ at) → ¬ (c ≡ at) → merged b c p ≡ at → p ≡ at
merged_root b c p at nb nc h = elim (cases_Bool (eqb p b || eqb p c)) [
  | inl hit ↦ absurd (min_other b c at nb nc (sym (ap (λ (t : Bool). cond t (min b c) p) hit) ∙ h))
  | inr miss ↦ sym (ap (λ (t : Bool). cond t (min b c) p) miss) ∙ h
]

pub merged_stays : (b c at : ℕ) → ¬ (b ≡ at) → ¬ (c ≡ at) → merged b c at ≡ at
merged_stays b c at nb nc =
    ap (λ (t : Bool). cond (t || eqb at c) (min b c) at) (ne_eqb at b (λ e. nb (sym e)))
    ∙ ap (λ (t : Bool). cond t (min b c) at) (ne_eqb at c (λ e. nc (sym e)))

module _ (w : SearchContext) (at : ℕ) (is_first : at < w.first)
    (unnamed : (f : Fact ℕ) → IsGiven w f → Avoids at f) where
  pub record IsRooted (fs : List (Fact ℕ)) : Type 0 where
    pub tree : IsTreeShaped w.first (IsGiven w) (given_on_first w) fs
    pub stays : rep fs at ≡ at
    pub alone : (x : ℕ) → rep fs x ≡ at → x ≡ at

  rooted_none : IsRooted []
  rooted_none =
      record { tree = tree_shaped_none w.first (IsGiven w) (given_on_first w); stays = refl; alone = λ x e. e }

  -- no edge ends at the node
  pub end_is_other : (fs : List (Fact ℕ)) → IsRooted fs → (roles : ℕ → Bool) (x y : ℕ) → has_edge fs roles x y ≡ true
      → ¬ (rep fs y ≡ at)
  end_is_other fs g roles x y h e = elim (g.tree.leads (rep fs x) (rep fs y) (any_edge fs roles x y h)) [
    | inl linked ↦
        (unnamed (Edge linked.role linked.begin linked.end) linked.is_given).1 (g.alone linked.end (linked.at_end ∙ e))
    | inr up ↦ absurd (omega (arith, up.not_first, e, is_first))
  ]

  -- nodes that are joined are others
  joined_are_others : (fs : List (Fact ℕ)) (y z : ℕ) → AreSiblings fs y z ⊎ IsGiven w (Same y z) → IsRooted fs
      → ¬ (rep fs y ≡ at) × ¬ (rep fs z ≡ at)
  joined_are_others fs y z (inl s) g = (
    end_is_other fs g any_role s.above y (successor_has_edge fs any_role s.above y s.first),
    end_is_other fs g any_role s.above z (successor_has_edge fs any_role s.above z s.second),
  )
  joined_are_others fs y z (inr given) g =
      let a = unnamed (Same y z) given in (λ e. a.0 (g.alone y e), λ e. a.1 (g.alone z e))

  stays_after : (fs : List (Fact ℕ)) (f : Fact ℕ) → Supports w.first (IsGiven w) fs (Says f) → IsRooted fs
      → rep (fs ++ f ∷ []) at ≡ at
  stays_after fs (Has v c) s g = rep-snoc fs (Has v c) at ∙ g.stays
  stays_after fs (Edge r v u) s g = rep-snoc fs (Edge r v u) at ∙ g.stays
  stays_after fs (Apart v u) s g = rep-snoc fs (Apart v u) at ∙ g.stays
  stays_after fs (Same v u) s g =
      let o = joined_are_others fs v u s g in
      rep-snoc fs (Same v u) at ∙ ap (merged (rep fs v) (rep fs u)) g.stays
      ∙ merged_stays (rep fs v) (rep fs u) at o.0 o.1

  alone_after : (fs : List (Fact ℕ)) (f : Fact ℕ) → Supports w.first (IsGiven w) fs (Says f) → IsRooted fs → (x : ℕ)
      → rep (fs ++ f ∷ []) x ≡ at → x ≡ at
  alone_after fs (Has v c) s g x e = g.alone x (sym (rep-snoc fs (Has v c) x) ∙ e)
  alone_after fs (Edge r v u) s g x e = g.alone x (sym (rep-snoc fs (Edge r v u) x) ∙ e)
  alone_after fs (Apart v u) s g x e = g.alone x (sym (rep-snoc fs (Apart v u) x) ∙ e)
  alone_after fs (Same v u) s g x e =
      let o = joined_are_others fs v u s g in
      g.alone x (merged_root (rep fs v) (rep fs u) (rep fs x) at o.0 o.1 (sym (rep-snoc fs (Same v u) x) ∙ e))

  rooted_after : (fs : List (Fact ℕ)) (f : Fact ℕ) → Supports w.first (IsGiven w) fs (Says f) → IsRooted fs
      → IsRooted (fs ++ f ∷ [])
  rooted_after fs f s g = record {
    tree = tree_shaped_after w.first (IsGiven w) (given_on_first w) fs f s g.tree;
    stays = stays_after fs f s g;
    alone = alone_after fs f s g;
  }

  pub built_rooted : (is : List Item) → IsBuilt w.first (IsGiven w) is → IsRooted (facts_of is)
  built_rooted = built_facts w.first (IsGiven w) IsRooted rooted_none rooted_after
