use Rattle.std.proofs.Common.{length, map, ap, sym, subst, ◌∙◌, arith, take}
use Rattle.std.proofs.lemmas.List.{take-map, length-take}
use Rattle.calculus_specs.specs.Shape.{IsTable}
use Rattle.shq_nnf.specs.Shapes.{form_of_owned}
use Rattle.shq_nnf.proofs.Grown.{table_taken}
use Rattle.shq_nnf.proofs.concepts.Concepts.truncate.Goals as goal

pub invariant_of-self : goal.invariant_of-self
invariant_of-self c =
    let keys = c.self.inside.kept.keys in
    let cut = c.truncate.ensures.keys in
    let short = ap length cut in (
      omega (arith, short, length-take c.args.len keys, c.self.invariant.0),
      subst IsTable (take-map form_of_owned c.args.len keys ∙ sym (ap (map form_of_owned) cut))
          (table_taken c.args.len (map form_of_owned keys) c.requires c.self.invariant.1),
    )

pub returns : goal.returns
returns c =
    let keys = c.self.inside.kept.keys in
    ap (map form_of_owned) c.truncate.ensures.keys ∙ sym (take-map form_of_owned c.args.len keys)
    ∙ ap (take c.args.len) c.self.view_is
