use Rattle.std.proofs.Common.{◌≡◌, ℕ, suc, ◌-◌, MatchOption, map, Some, None, Option, ap, subst, List, arith, Bor}
use Rattle.std.specs.Prelude.{slice_get}
use Rattle.std.specs.Option.{option_copied}
use Rattle.shq_nnf.specs.Shape.{Shape}
use Rattle.shq_nnf.specs.Shape.Shape.{top}
use Rattle.shq_nnf.specs.declared.shapes.OwnedShape.{OwnedShape}
use Rattle.shq_nnf.specs.Shapes.{form_of_owned}
use Rattle.refutation_tree.specs.Shapes.{shape_at}
use Rattle.refutation_tree.proofs.Shapes.{shape_there, shape_missing}
use Rattle.refutation_tree.proofs.refutation.Refutation.kept.Goals as goal

at_place : (keys : List OwnedShape) (n : ℕ) (found : Option (Bor OwnedShape)) → option_copied found ≡ slice_get keys n
    → MatchOption found (shape_at (map form_of_owned keys) (suc n) ≡ top)
    (λ k. form_of_owned k.now ≡ shape_at (map form_of_owned keys) (suc n))
at_place keys n None at = shape_missing keys n at
at_place keys n (Some k) at = shape_there keys n k.now at

pub returns : goal.returns
returns c =
    let keys = c.self.inside.shapes.keys in
    let place : suc (c.args.concept - 1) ≡ c.args.concept = omega (arith, c.if-concept-eq0.false) in
    let forms : map form_of_owned keys ≡ c.args.self.now.shapes = ap (λ k. k.shapes) c.self.view_is in
    let P : List Shape → ℕ → Type 0 =
    λ shapes n. MatchOption c.get_index.result (shape_at shapes n ≡ top)
    (λ k. form_of_owned k.now ≡ shape_at shapes n) in
    subst (λ shapes. P shapes c.args.concept) forms
    (subst (P (map form_of_owned keys)) place
    (at_place keys (c.args.concept - 1) c.get_index.result c.get_index.ensures.key))
