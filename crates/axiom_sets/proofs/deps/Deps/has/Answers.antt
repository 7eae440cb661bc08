use Rattle.std.proofs.Common.{sym, ap, ◌∙◌}
use Rattle.std.specs.FinSet as set
use Rattle.lane_sieve.specs.Sets.{NumberSet}
use Rattle.axiom_sets.proofs.DependencyListed.{contains-marks}
use Rattle.axiom_sets.proofs.deps.Deps.has.Goals as goal

pub returns : goal.returns
returns c =
    c.has_mark.ensures ∙ sym (contains-marks c.marks.result.now c.args.mark)
    ∙ ap (λ (s : NumberSet). set.contains s c.args.mark) c.marks.ensures.members
