-- The lines of concepts, one after another.
use Rattle.std.proofs.Common.{◌≡◌, ℕ, suc, ◌+◌, ◌<◌, true, List, [], ◌∷◌, ◌++◌, length, drop, ap, sym, ◌∙◌, arith}
use Rattle.std.proofs.Common.{append_assoc}
use Rattle.std.specs.List.{list_all}
use Rattle.std.proofs.Math.Seq.{drop-cons}
use Rattle.std.proofs.lemmas.Bool.{and_parts}
use Rattle.certificate_lines.specs.Written.{text_of}
use Rattle.certificate_lines.specs.Listed.{Listed}
use Rattle.shq_nnf.specs.Shape.{Shape}
use Rattle.shq_nnf.specs.Shape.Shape.{top}
use Rattle.refutation_tree.specs.Shapes.{shape_at}
use Rattle.refutation_tree.specs.Written.{concept_line, concept_lines, shape_is_listed}

-- the shape at a place, and those after it
pub shape_first : (shapes : List Shape) (i : ℕ) → i < length shapes
    → drop i shapes ≡ shape_at shapes (i + 1) ∷ drop (i + 1) shapes
shape_first shapes i lt =
    let next : suc i ≡ i + 1 = omega arith in
    drop-cons shapes i top lt ∙ ap (λ k. shape_at shapes k ∷ drop k shapes) next

pub listed_first : (o : Listed) (shapes : List Shape) (i : ℕ) → i < length shapes
    → list_all (shape_is_listed o) (drop i shapes) ≡ true
    → (shape_is_listed o (shape_at shapes (i + 1)) ≡ true) × (list_all (shape_is_listed o) (drop (i + 1) shapes) ≡ true)
listed_first o shapes i lt h =
    and_parts (shape_is_listed o (shape_at shapes (i + 1))) (list_all (shape_is_listed o) (drop (i + 1) shapes))
    (ap (list_all (shape_is_listed o)) (sym (shape_first shapes i lt)) ∙ h)

pub line_first : (o : Listed) (shapes : List Shape) (i : ℕ) → i < length shapes → (before : List ℕ)
    → (before ++ (concept_line o (i + 1) (shape_at shapes (i + 1)) ++ 10 ∷ []))
    ++ text_of (concept_lines o (i + 1 + 1) (drop (i + 1) shapes))
    ≡ before ++ text_of (concept_lines o (i + 1) (drop i shapes))
line_first o shapes i lt before =
    append_assoc before (concept_line o (i + 1) (shape_at shapes (i + 1)) ++ 10 ∷ [])
    (text_of (concept_lines o (i + 1 + 1) (drop (i + 1) shapes)))
    ∙ ap (λ (ss : List Shape). before ++ text_of (concept_lines o (i + 1) ss)) (sym (shape_first shapes i lt))
