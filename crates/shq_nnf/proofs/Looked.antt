-- What a look for a kept shape says of the table.
use Rattle.std.proofs.Common.{◌≡◌, ℕ, ◌<◌, true, false, List, map, length, Some, None, ap, sym, ◌∙◌, arith}
use Rattle.std.specs.Prelude.{position}
use Rattle.std.specs.List.{list_any}
use Rattle.std.proofs.lemmas.List.{get_or-map, length-map}
use Rattle.std.proofs.lemmas.List.Quantifiers.{position-Some}
use Rattle.calculus_specs.specs.Shape.{Shape, shape_of}
use Rattle.calculus_specs.specs.Shape.Shape.{top}
use Rattle.shq_nnf.specs.declared.shapes.OwnedShape.{OwnedShape}
use Rattle.shq_nnf.specs.contracts.shapes.OwnedShapePartialEq.TheImpl.{ghosts}
use Rattle.shq_nnf.specs.Shapes.{form_of_owned}
use Rattle.shq_nnf.proofs.Same.{same_form}
use Rattle.shq_nnf.proofs.Inserted.{found_at}

module _ (keys : List OwnedShape) (table : List Shape) (k : OwnedShape) (view : map form_of_owned keys ≡ table) where
  pub looked_up : (n : ℕ) → position (ghosts.eq k) keys ≡ Some n
      → (n < length table) × (shape_of table n ≡ form_of_owned k)
  looked_up n e =
      let at = position-Some (ghosts.eq k) keys n k e in
      let long = ap length view in (
        omega (arith, long, length-map keys form_of_owned, at.0),
        ap (λ (t : List Shape). shape_of t n) (sym view) ∙ get_or-map form_of_owned keys n k top at.0
            ∙ sym (same_form k _ at.1),
      )

  pub looked_in_vain : list_any (ghosts.eq k) keys ≡ false → (n : ℕ) → n < length table
      → ¬ (shape_of table n ≡ form_of_owned k)
  looked_in_vain none n lt is =
      let long = ap length view in
      let there : list_any (ghosts.eq k) keys ≡ true =
      found_at k keys n (omega (arith, long, length-map keys form_of_owned))
      (ap (λ (t : List Shape). shape_of t n) view ∙ is) in
      cc
