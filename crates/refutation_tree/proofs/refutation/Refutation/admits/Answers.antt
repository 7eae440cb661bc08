use Rattle.std.proofs.Common.{◌≡◌, ◌&&◌, not, List, map, Bool, ap, sym, ◌∙◌}
use Rattle.shq_nnf.specs.Shape.{Shape}
use Rattle.shq_nnf.specs.Shapes.{form_of_owned}
use Rattle.refutation_tree.specs.Shapes.{is_among_shapes}
use Rattle.refutation_tree.proofs.Shapes.{kept_listed}
use Rattle.refutation_tree.proofs.refutation.Refutation.admits.Goals as goal

pub returns-then-fits : goal.returns-then-fits
returns-then-fits c =
    let keys = c.self.inside.shapes.keys in
    let forms : map form_of_owned keys ≡ c.args.self.now.shapes = ap (λ k. k.shapes) c.self.view_is in
    let s = form_of_owned c.args.shape.now in
    let listed =
    c.contains.ensures ∙ kept_listed c.args.shape.now keys ∙ ap (λ (t : List Shape). is_among_shapes t s) forms in
    ap not listed
    ∙ ap (λ (b : Bool). b && not (is_among_shapes c.args.self.now.shapes s)) (sym c.if-fits.true ∙ c.fits.ensures)
