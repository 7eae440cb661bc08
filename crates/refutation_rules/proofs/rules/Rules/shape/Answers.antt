use Rattle.std.proofs.Common.{length, ◌∙◌, sym, ap, arith}
use Rattle.calculus_specs.specs.Shape.{has_parts_below}
use Rattle.calculus_specs.specs.Tree.{tree_over, trees_of}
use Rattle.shq_nnf.proofs.Numbers.{shape_tree}
use Rattle.refutation_rules.proofs.Held.{parts_more}
use Rattle.refutation_rules.proofs.rules.Rules.shape.Goals as goal

pub returns-clause-tree : goal.returns-clause-tree
returns-clause-tree c =
    let lt = rw (← c.self.view_is) at c.requires in
    let table = rw c.concepts.ensures at c.shape.ensures.table in
    let shape = rw c.concepts.ensures at c.shape.ensures.shape in
    let all = c.self.inside.rows.table in
    rw (← c.self.view_is)
    (shape_tree all table c.args.number lt ∙ ap (tree_over (trees_of all)) (sym shape))

pub returns-clause-parts : goal.returns-clause-parts
returns-clause-parts c =
    let lt = rw (← c.self.view_is) at c.requires in
    let table = rw c.concepts.ensures at c.shape.ensures.table in
    let shape = rw c.concepts.ensures at c.shape.ensures.shape in
    let long = length c.self.inside.rows.table in
    rw (← c.self.view_is)
    (ap (has_parts_below long) shape
    ∙ parts_more c.args.number long _ (omega arith) (table.parts_below c.args.number lt))
