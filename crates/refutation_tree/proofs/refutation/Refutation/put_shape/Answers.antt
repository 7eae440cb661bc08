use Rattle.std.proofs.Common.{◌≡◌, [], ◌∷◌, ◌++◌, ◌+◌, ◌^◌, ◌<◌, List, map, length, true, ap, sym, ◌∙◌, subst}
use Rattle.shq_nnf.specs.Shape.{Shape}
use Rattle.shq_nnf.specs.Shapes.{form_of_owned}
use Rattle.refutation_tree.specs.Shapes.{admits}
use Rattle.refutation_tree.specs.RefutationLists.{RefutationLists}
use Rattle.refutation_tree.proofs.ShapePushed.{forms_pushed, kept_pushed}
use Rattle.refutation_tree.proofs.refutation.Refutation.put_shape.Goals as goal

pub invariant_of-self-2 : goal.invariant_of-self-2
invariant_of-self-2 c =
    let keys = c.self.inside.shapes.keys in
    let forms : map form_of_owned keys ≡ c.args.self.now.shapes = ap (λ k. k.shapes) c.self.view_is in
    let admitted =
    subst (λ (t : List Shape). admits t (form_of_owned c.args.shape) ≡ true) (sym forms) c.requires.admitted in
    kept_pushed keys c.insert.new.self.keys c.args.shape c.in_ok-insert.ensures.keys admitted _
    (ap (λ k. k.lines) c.self.view_is ∙ c.requires.lines)
    (subst (λ (t : List Shape). length t + 1 < 2 ^ 32) (sym forms) c.requires.room) c.self.invariant.are_shapes

pub returns-clause-ok : goal.returns-clause-ok
returns-clause-ok c =
    let keys = c.self.inside.shapes.keys in
    let forms : map form_of_owned keys ≡ c.args.self.now.shapes = ap (λ k. k.shapes) c.self.view_is in
    let admitted =
    subst (λ (t : List Shape). admits t (form_of_owned c.args.shape) ≡ true) (sym forms) c.requires.admitted in
    let after = c.insert.new.self.keys in
    let pushed = forms_pushed keys after c.args.shape c.in_ok-insert.ensures.keys admitted in
    ap (λ (k : RefutationLists). record k { shapes = map form_of_owned after }) c.self.view_is
    ∙ ap (λ (t : List Shape). record c.args.self.now { shapes = t })
    (pushed ∙ ap (λ (t : List Shape). t ++ form_of_owned c.args.shape ∷ []) forms)
