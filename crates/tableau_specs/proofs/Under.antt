-- A successor of a clear node is not under a block.
use Rattle.std.proofs.Common.{◌≡◌, ℕ, ◌<◌, ◌≤◌, Bool, true, List, Some, ap, inl, inr, ◌∙◌, sym, subst, arith}
use Rattle.calculus_specs.specs.declared.facts.Fact.{Fact}
use Rattle.calculus_specs.specs.Joins.{rep}
use Rattle.calculus_specs.specs.State.{parent_from, is_successor}
use Rattle.tableau_specs.specs.declared.Block.TheVariants.{Clear, Under}
use Rattle.tableau_specs.specs.declared.Item.{Item}
use Rattle.tableau_specs.specs.Items.{facts_of}
use Rattle.tableau_specs.specs.Blocked.{block_of}
use Rattle.tableau_specs.specs.StateLaws.{BlockSays}
use Rattle.tableau_specs.proofs.PlainClash.{successor_is_rep, successor_has_edge}
use Rattle.tableau_specs.proofs.Blocks.{blocks_say}
use Rattle.tableau_specs.specs.Steps.{SearchContext}
use Rattle.tableau_specs.specs.Reached.{start, Follows}
use Rattle.tableau_specs.specs.StepLaws.{LeadsDown}
use Rattle.tableau_specs.proofs.Reached.{successor_is_child, parents_less}
use Rattle.tableau_specs.proofs.TreeShaped.{origin_of_parent}

module _ (w : SearchContext) where
  -- a node with a parent is no first node
  is_other : (fs : List (Fact ℕ)) (y p : ℕ) → parent_from w.first fs y ≡ Some p → w.first ≤ y
  is_other fs y p h = (origin_of_parent w.first fs y p h).0

  not_under : (fs : List (Fact ℕ)) (x y : ℕ) → ((v p : ℕ) → parent_from w.first fs v ≡ Some p → p < v)
      → LeadsDown w fs x y → rep fs x ≡ x → rep fs y ≡ y → block_of w.first fs x ≡ Clear
      → ¬ (block_of w.first fs y ≡ Under)
  not_under fs x y less (inl k) rx ry clear e =
      let c = (blocks_say w.first fs less).0 y (omega (arith, k.ends_first, ry)) in cc
  not_under fs x y less (inr h) rx ry clear e =
      let is_parent : parent_from w.first fs y ≡ Some h.up = ap (parent_from w.first fs) (sym ry) ∙ h.is_parent in
      let s = subst (BlockSays w.first fs y) e ((blocks_say w.first fs less).1 y (is_other fs y h.up is_parent)) in
      let same : Some s.0 ≡ Some h.up = sym s.1 ∙ is_parent in
      let p : s.0 ≡ h.up = cc in
      s.2 (ap (λ (v : ℕ). block_of w.first fs v) (ap (rep fs) p ∙ h.is_joined ∙ rx) ∙ clear)

pub clear_has_none_under : (w : SearchContext) (at sub not_sup k : ℕ) (trail : List Item) → at < w.first
    → Follows w (start at sub not_sup) k trail
    → (roles : ℕ → Bool) (x y : ℕ) → rep (facts_of trail) x ≡ x → block_of w.first (facts_of trail) x ≡ Clear
    → is_successor (facts_of trail) roles x y ≡ true
    → ¬ (block_of w.first (facts_of trail) y ≡ Under)
clear_has_none_under w at sub not_sup k trail lt r roles x y rx clear next =
    let fs = facts_of trail in
    not_under w fs x y (parents_less w at sub not_sup k trail lt r)
    (successor_is_child w at sub not_sup k trail lt r roles x y (successor_has_edge fs roles x y next)) rx
    (successor_is_rep fs roles x y next) clear
