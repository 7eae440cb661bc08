use Rattle.std.proofs.Common.{◌+◌, ◌++◌, List, ℕ, map, drop, ap, sym, ◌∙◌}
use Rattle.calculus_specs.specs.Tree.{tree_of}
use Rattle.absorption.specs.Triggers.{name_positions}
use Rattle.absorption.proofs.Listed.{name_here, no_name_here}
use Rattle.absorption.proofs.row.name_positions.Goals as goal
use Rattle.absorption.proofs.row.name_positions.Goals.{then-is_name+in_ok-push, else-is_name}

pub loop-index-preserved : goal.loop-index-preserved
loop-index-preserved c =
    let f = tree_of c.args.concepts.now in
    let cs = c.args.conjuncts.now in
    let i = c.loop-index.index in
    let ps = c.loop-index.positions in
    let lt = c.loop-index-test.true in
    elim c.if-is_name.branch [
      | then-is_name+in_ok-push w ↦
          ap (λ (l : List ℕ). l ++ name_positions ((i + 1) + 1) (map f (drop (i + 1) cs)))
          (w.positions-is ∙ w.in_ok-push.ensures.pushed)
          ∙ name_here f cs i lt ps (sym w.if-is_name.true ∙ c.is_name.ensures) ∙ c.loop-index.invariant
      | else-is_name w ↦
          ap (λ (l : List ℕ). l ++ name_positions ((i + 1) + 1) (map f (drop (i + 1) cs))) w.positions-is
          ∙ no_name_here f cs i lt ps (sym w.if-is_name.false ∙ c.is_name.ensures) ∙ c.loop-index.invariant
    ]
