use Rattle.std.proofs.Common.{◌≡◌, ap, ◌∙◌}
use Rattle.std.proofs.lemmas.Result.{IfOk-weaker}
use Rattle.std.specs.FinSet as set
use Rattle.refutation_tree.specs.NumberSets.{NumberSet}
use Rattle.search_trace.proofs.Marks.{union_one}
use Rattle.search_trace.proofs.opens.marks_of_alternatives.Goals as goal

pub returns : goal.returns
returns c =
    let o = c.args.latest.now in
    IfOk-weaker c.union.result (λ u. u ≡ set.union o.marks c.in_ok-mark.mark) (λ u. u ≡ set.insert o.marks o.mark)
    (λ u is. is ∙ ap (λ (v : NumberSet). set.union o.marks v) c.in_ok-mark.ensures ∙ union_one o.marks o.mark)
    c.union.ensures
