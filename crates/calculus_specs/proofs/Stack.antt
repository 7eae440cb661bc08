-- Lines read with a stack of open branches, and trees of lines.
use Rattle.std.proofs.Common.{◌≡◌, ℕ, List, [], ◌∷◌, ◌++◌, Option, Some, None, refl, ap, ◌∙◌, sym, subst, append_assoc}
use Rattle.std.proofs.lemmas.List.{append-nil}
use Rattle.std.specs.Option.{option_and_then, option_map}
use Rattle.shq_base.specs.Concept.{Concept}
use Rattle.calculus_specs.specs.Shape.{Shape}
use Rattle.calculus_specs.specs.Line.{Line, Tree, node, Trees, no_trees, tree, preorder, preorders}
use Rattle.calculus_specs.specs.Rules.{Question, Known, children_of, nothing_known}
use Rattle.calculus_specs.specs.Valid.{concept_at, IsShut, AreShut, open_after_all, IsRefutation}

module _ (q : Question) (concept : ℕ → Option Concept) where
  -- what a line leaves open, once its children are known
  abbrev left_by : List Line → List Known → Option (List Known) → Option (List Known)
  left_by lines ks o =
      option_and_then (λ (left : List Known). open_after_all q concept left lines)
      (option_map (λ (new : List Known). new ++ ks) o)

  -- ---- from trees to lines

  mutual
    pub tree_runs : (k : Known) (t : Tree) (ks : List Known) (rest : List Line) → IsShut q concept k t
        → open_after_all q concept (k ∷ ks) (preorder t ++ rest) ≡ open_after_all q concept ks rest
    tree_runs k (node line kids) ks rest h = trees_run (children_of q concept k line) kids ks rest h

    pub trees_run : (o : Option (List Known)) (ts : Trees) (ks : List Known) (rest : List Line) → AreShut q concept o ts
        → left_by (preorders ts ++ rest) ks o ≡ open_after_all q concept ks rest
    trees_run None ts ks rest h = absurd h
    trees_run (Some []) no_trees ks rest h = refl
    trees_run (Some []) (tree t ts) ks rest h = absurd h
    trees_run (Some (k ∷ new)) no_trees ks rest h = absurd h
    trees_run (Some (k ∷ new)) (tree t ts) ks rest h =
        ap (λ (lines : List Line). open_after_all q concept (k ∷ new ++ ks) lines)
        (append_assoc (preorder t) (preorders ts) rest)
        ∙ tree_runs k t (new ++ ks) (preorders ts ++ rest) h.0
        ∙ trees_run (Some new) ts ks rest h.1

  -- ---- from lines to trees

  -- trees that are shut in turn, and whose lines these are
  pub record Forest (ks : List Known) (lines : List Line) : Type 0 where
    pub trees : Trees
    pub in_preorder : preorders trees ≡ lines
    pub are_shut : AreShut q concept (Some ks) trees

  record Split (new ks : List Known) (ts : Trees) : Type 0 where
    pub front : Trees
    pub back : Trees
    pub in_preorder : preorders ts ≡ preorders front ++ preorders back
    pub front_shut : AreShut q concept (Some new) front
    pub back_shut : AreShut q concept (Some ks) back

  split : (new ks : List Known) (ts : Trees) → AreShut q concept (Some (new ++ ks)) ts → Split new ks ts
  split [] ks ts h = record { front = no_trees; back = ts; in_preorder = refl; front_shut = tt; back_shut = h }
  split (k ∷ new) ks no_trees h = absurd h
  split (k ∷ new) ks (tree t ts) h =
      let r = split new ks ts h.1 in
      record {
        front = tree t r.front;
        back = r.back;
        in_preorder =
            ap (λ (ls : List Line). preorder t ++ ls) r.in_preorder
            ∙ sym (append_assoc (preorder t) (preorders r.front) (preorders r.back));
        front_shut = (h.0, r.front_shut);
        back_shut = r.back_shut;
      }

  grow : (o : Option (List Known)) (line : Line) (lines : List Line) (k : Known) (ks : List Known)
      → children_of q concept k line ≡ o
      → ((left : List Known) → open_after_all q concept left lines ≡ Some [] → Forest left lines)
      → left_by lines ks o ≡ Some [] → Forest (k ∷ ks) (line ∷ lines)
  grow None line lines k ks e rest h = cc
  grow (Some new) line lines k ks e rest h =
      let f = rest (new ++ ks) h in
      let r = split new ks f.trees f.are_shut in
      record {
        trees = tree (node line r.front) r.back;
        in_preorder = ap (λ (ls : List Line). line ∷ ls) (sym r.in_preorder ∙ f.in_preorder);
        are_shut = (subst (λ (o : Option (List Known)). AreShut q concept o r.front) (sym e) r.front_shut, r.back_shut);
      }

  pub forest : (lines : List Line) (ks : List Known) → open_after_all q concept ks lines ≡ Some [] → Forest ks lines
  forest [] [] h = record { trees = no_trees; in_preorder = refl; are_shut = tt }
  forest [] (k ∷ ks) h = cc
  forest (line ∷ lines) [] h = cc
  forest (line ∷ lines) (k ∷ ks) h = grow (children_of q concept k line) line lines k ks refl (forest lines) h

-- ---- a refutation

module _ (q : Question) (shapes : List Shape) where
  pub refutation_runs : (lines : List Line) → IsRefutation q shapes lines
      → open_after_all q (concept_at shapes) (nothing_known ∷ []) lines ≡ Some []
  refutation_runs lines h =
      ap (λ (ls : List Line). open_after_all q (concept_at shapes) (nothing_known ∷ []) ls)
      (sym (append-nil (preorder h.tree) ∙ h.in_preorder))
      ∙ tree_runs q (concept_at shapes) nothing_known h.tree [] [] h.is_shut

  only_tree : (lines : List Line) (ts : Trees) → preorders ts ≡ lines
      → AreShut q (concept_at shapes) (Some (nothing_known ∷ [])) ts → IsRefutation q shapes lines
  only_tree lines no_trees e h = absurd h
  only_tree lines (tree t no_trees) e h =
      record { tree = t; in_preorder = sym (append-nil (preorder t)) ∙ e; is_shut = h.0 }
  only_tree lines (tree t (tree u ts)) e h = absurd h.1

  pub run_refutes : (lines : List Line) → open_after_all q (concept_at shapes) (nothing_known ∷ []) lines ≡ Some []
      → IsRefutation q shapes lines
  run_refutes lines h =
      let f = forest q (concept_at shapes) lines (nothing_known ∷ []) h in
      only_tree lines f.trees f.in_preorder f.are_shut
