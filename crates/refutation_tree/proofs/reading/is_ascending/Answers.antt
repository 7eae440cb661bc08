use Rattle.std.proofs.Common.{◌-◌, drop, arith, sym, ◌∙◌}
use Rattle.std.proofs.lemmas.List.{length-drop}
use Rattle.shq_nnf.proofs.Ascending.{short_ascends}
use Rattle.refutation_tree.proofs.reading.is_ascending.Goals as goal

pub returns : goal.returns
returns c =
    let rest = drop (c.loop-index.index - 1) c.args.numbers.now in
    sym (short_ascends rest (omega (arith, length-drop (c.loop-index.index - 1) c.args.numbers.now)))
    ∙ c.loop-index.invariant
