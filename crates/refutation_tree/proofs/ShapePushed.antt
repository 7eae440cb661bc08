-- A refutation with one shape more.
use Rattle.std.proofs.Common.{◌≡◌, ◌+◌, ◌^◌, ◌<◌, not, Bool, true, false, List, [], ◌∷◌, ◌++◌, length, map, refl, ap}
use Rattle.std.proofs.Common.{subst, sym, ◌∙◌, arith, length-append}
use Rattle.std.specs.Prelude.{if◌then◌else◌}
use Rattle.std.specs.List.{list_any, list_all}
use Rattle.std.proofs.lemmas.Bool.{and_parts}
use Rattle.std.proofs.lemmas.List.{map-append}
use Rattle.shq_nnf.specs.Line.{Line}
use Rattle.shq_nnf.specs.declared.shapes.OwnedShape.{OwnedShape}
use Rattle.shq_nnf.specs.contracts.shapes.OwnedShapePartialEq.TheImpl.{ghosts}
use Rattle.shq_nnf.specs.Shapes.{form_of_owned}
use Rattle.refutation_tree.specs.Shapes.{fits, is_among_shapes, admits, AreShapes}
use Rattle.refutation_tree.specs.RuleLine.{names_concepts}
use Rattle.refutation_tree.specs.RefutationLists.{IsKept}
use Rattle.refutation_tree.proofs.Shapes.{shapes_push, kept_listed}

module _ (keys after : List OwnedShape) (k : OwnedShape)
    (inserted : after ≡ (if list_any (ghosts.eq k) keys then keys else keys ++ k ∷ []))
    (admitted : admits (map form_of_owned keys) (form_of_owned k) ≡ true) where
  fresh : list_any (ghosts.eq k) keys ≡ false
  fresh =
      kept_listed k keys
      ∙ unlisted (is_among_shapes (map form_of_owned keys) (form_of_owned k))
      (and_parts (fits (map form_of_owned keys) (form_of_owned k))
      (not (is_among_shapes (map form_of_owned keys) (form_of_owned k))) admitted).1
    where
      unlisted : (b : Bool) → not b ≡ true → b ≡ false
      unlisted true h = sym h
      unlisted false h = refl

  pub forms_pushed : map form_of_owned after ≡ map form_of_owned keys ++ form_of_owned k ∷ []
  forms_pushed =
      ap (map form_of_owned) (inserted ∙ ap (λ (b : Bool). if b then keys else keys ++ k ∷ []) fresh)
      ∙ map-append form_of_owned keys (k ∷ [])

  pub kept_pushed : (lines : List Line) → lines ≡ [] → length (map form_of_owned keys) + 1 < 2 ^ 32
      → AreShapes (map form_of_owned keys) → IsKept (map form_of_owned after) lines
  kept_pushed lines none room good = record {
    few = omega (arith, room, ap length forms_pushed, length-append (map form_of_owned keys) (form_of_owned k ∷ []));
    are_shapes =
        subst AreShapes (sym forms_pushed) (shapes_push (map form_of_owned keys) (form_of_owned k) good admitted);
    are_known = ap (list_all (names_concepts (map form_of_owned after))) none;
  }
