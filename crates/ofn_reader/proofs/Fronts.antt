-- Annotations in front.
use Rattle.std.proofs.Common.{◌≡◌, Bool, ℕ, suc, ◌+◌, List, [], ◌∷◌, true, false, cond, drop, refl, ap, sym, ◌∙◌, arith}
use Rattle.std.specs.List.{prefix_len}
use Rattle.ofn_tree.specs.Items.{Item, items_of, item}
use Rattle.ofn_reader.specs.Groups.{is_annotation, without_annotations}

skip : (n : ℕ) (i : Item) (is : List Item) → drop n is ≡ drop (1 + n) (i ∷ is)
skip n i is = let e : 1 + n ≡ suc n = omega arith in sym (ap (λ k. drop k (i ∷ is)) e)

pub without_annotations_is : (is : List Item)
    → without_annotations (items_of is) ≡ items_of (drop (prefix_len is_annotation is) is)
without_annotations_is [] = refl
without_annotations_is (i ∷ is) = by (without_annotations_is is) (is_annotation i)
  where
    by : without_annotations (items_of is) ≡ items_of (drop (prefix_len is_annotation is) is) → (b : Bool)
        → cond b (without_annotations (items_of is)) (item i (items_of is))
        ≡ items_of (drop (cond b (1 + prefix_len is_annotation is) 0) (i ∷ is))
    by rest true = rest ∙ ap items_of (skip (prefix_len is_annotation is) i is)
    by rest false = refl
