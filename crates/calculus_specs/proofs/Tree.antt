-- The trees of a table that grows.
use Rattle.std.proofs.Common.{◌≡◌, ℕ, ◌+◌, ◌<◌, List, [], ◌∷◌, ◌++◌, length, get_or, refl, ap, ◌∙◌, arith}
use Rattle.std.proofs.Common.{length-append}
use Rattle.std.proofs.lemmas.List.{get_or_append_left, get_or_push}
use Rattle.shq_base.specs.Concept.{Concept, top}
use Rattle.calculus_specs.specs.Shape.{Shape}
use Rattle.calculus_specs.specs.Tree.{tree_over, trees_after, trees_of, tree_of}

pub trees_after-append : (trees : List Concept) (t u : List Shape)
    → trees_after trees (t ++ u) ≡ trees_after (trees_after trees t) u
trees_after-append trees [] u = refl
trees_after-append trees (s ∷ t) u = trees_after-append (trees ++ tree_over trees s ∷ []) t u

pub length-trees_after : (trees : List Concept) (t : List Shape)
    → length (trees_after trees t) ≡ length trees + length t
length-trees_after trees [] = omega arith
length-trees_after trees (s ∷ t) =
    omega (arith, length-trees_after (trees ++ tree_over trees s ∷ []) t, length-append trees (tree_over trees s ∷ []))

pub length-trees_of : (t : List Shape) → length (trees_of t) ≡ length t
length-trees_of t = omega (arith, length-trees_after [] t)

-- the trees that are known stay
pub trees_after_keeps : (trees : List Concept) (t : List Shape) (c : ℕ) → c < length trees
    → get_or (trees_after trees t) c top ≡ get_or trees c top
trees_after_keeps trees [] c lt = refl
trees_after_keeps trees (s ∷ t) c lt =
    trees_after_keeps (trees ++ tree_over trees s ∷ []) t c
    (omega (arith, length-append trees (tree_over trees s ∷ [])))
    ∙ get_or_append_left trees (tree_over trees s ∷ []) top c lt

pub tree_of-append : (t u : List Shape) (c : ℕ) → c < length t → tree_of (t ++ u) c ≡ tree_of t c
tree_of-append t u c lt =
    ap (λ (trees : List Concept). get_or trees c top) (trees_after-append [] t u)
    ∙ trees_after_keeps (trees_of t) u c (omega (arith, length-trees_of t))

pub tree_of_new : (t : List Shape) (s : Shape) (u : List Shape)
    → tree_of (t ++ s ∷ u) (length t) ≡ tree_over (trees_of t) s
tree_of_new t s u =
    ap (λ (trees : List Concept). get_or trees (length t) top) (trees_after-append [] t (s ∷ u))
    ∙ trees_after_keeps (trees_of t ++ tree_over (trees_of t) s ∷ []) u (length t)
    (omega (arith, length-append (trees_of t) (tree_over (trees_of t) s ∷ []), length-trees_of t))
    ∙ get_or_push (trees_of t) (tree_over (trees_of t) s) top (length t) (length-trees_of t)
